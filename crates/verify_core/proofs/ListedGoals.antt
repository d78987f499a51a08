-- The goals of a procedure, in their order.
use Rattle.std.proofs.Common.{◌≡◌, ℕ, refl, sym, ap, ap₂, ◌∙◌, subst, true, false, List, [], ◌∷◌, ◌++◌, append_assoc, map}
use Rattle.std.specs.Option.{is_some}
use Rattle.std.specs.Prelude.{Option, Some, None, Vec}
use Rattle.std.specs.declared.alloc.Global.{Global}
use Rattle.std.proofs.lemmas.List.{map-append}
use Rattle.heylo_formula.specs.BinderNames.{binders}
use Rattle.heylo_formula.specs.Binders.{has_binder}
use Rattle.heylo_formula.specs.Formula.{Form}
use Rattle.heylo_formula.specs.PlainTrees.{form_of}
use Rattle.heylo_formula.specs.declared.goals.GoalId.TheVariants.{Main}
use Rattle.heyvl_acts.specs.Acts.{Acts, TypedProcedure, acts_in, procedure_at}
use Rattle.heyvl_acts.specs.PlainActs.{body_of, procedure_of}
use Rattle.heyvl_acts.specs.Places.{in_order}
use Rattle.heyvl_acts.specs.Rules.{Each, HasNamedBinders, MeetsRules, loop_numbers}
use Rattle.heyvl_acts.specs.declared.acts.Act as A
use Rattle.heyvl_acts.specs.declared.typed_trees.TProc.{TProc}
use Rattle.loop_encodings.specs.BoundGoals.{BoundGoal, bound_goals, goal_id}
use Rattle.goal_answers.specs.declared.named_goals.NamedGoal.{NamedGoal}
use Rattle.verify_core.specs.Questions.{AreGoals, IsMadeOf, one_bound, question}
use Rattle.verify_core.specs.declared.bound_questions.Asked as declared
use Rattle.verify_core.specs.internal.BoundQuestions.{AreMadeFor, Asked, IsAsked, IsMadeFor, NamedQuestion, asked, asked_question, own_question, plain}
use Rattle.verify_core.proofs.AskedBounds.{asked_ids, each_is_asked, weak_goals}
use Rattle.verify_core.proofs.SideBySide.{zip_more}

questions_more : (q : TypedProcedure) (before : List NamedQuestion) (ys : List declared.Asked) (y : declared.Asked) → (before ++ map (asked_question q) (map plain ys)) ++ asked_question q (plain y) ∷ [] ≡ before ++ map (asked_question q) (map plain (ys ++ y ∷ []))
questions_more q before ys y = append_assoc before (map (asked_question q) (map plain ys)) (asked_question q (plain y) ∷ []) ∙ ap (λ l. before ++ l) (sym (ap (λ l. map (asked_question q) l) (map-append plain ys (y ∷ [])) ∙ map-append (asked_question q) (map plain ys) (plain y ∷ [])))

pub pushed_goal : (q : TypedProcedure) (p : ℕ) (x : TProc) (before after : List NamedGoal) (g : NamedGoal) (questions : List NamedQuestion) (ys : List declared.Asked) (y : declared.Asked) → q ≡ procedure_of x → g.proc ≡ p → g.id ≡ y.id → IsMadeOf (one_bound (procedure_of x) (form_of y.form)) g.made → after ≡ before ++ g ∷ [] → AreMadeFor p (questions ++ map (asked_question q) (map plain ys)) before → AreMadeFor p (questions ++ map (asked_question q) (map plain (ys ++ y ∷ []))) after
pushed_goal q p x before after g questions ys y here i j m e h =
    subst (λ l. AreMadeFor p (questions ++ map (asked_question q) (map plain (ys ++ y ∷ []))) l) (sym e) (
    subst (λ l. AreMadeFor p l (before ++ g ∷ [])) (questions_more q questions ys y) (
    zip_more (IsMadeFor p) (questions ++ map (asked_question q) (map plain ys)) before (asked_question q (plain y)) g h (record { proc = i; id_of = j; made = subst (λ (r : TypedProcedure). IsMadeOf (one_bound r (form_of y.form)) g.made) (sym here) m })))

goals_are_made : (ps : List TypedProcedure) (p : ℕ) (goals : List BoundGoal) (gs : List NamedGoal) → AreMadeFor p (map (own_question ps (procedure_at ps p)) goals) gs → AreGoals ps p goals gs
goals_are_made ps p [] [] h = tt
goals_are_made ps p [] (g ∷ gs) h = absurd h
goals_are_made ps p (b ∷ goals) [] h = absurd h
goals_are_made ps p (b ∷ goals) (g ∷ gs) h = (record { proc = h.0.proc; id_of = h.0.id_of; made = h.0.made }, goals_are_made ps p goals gs h.1)

asked_are : (ps : List TypedProcedure) (q : TypedProcedure) (goals : List BoundGoal) (all : List Asked) → map (λ (a : Asked). a.0) all ≡ map goal_id goals → Each (IsAsked ps q) all → map (asked_question q) all ≡ map (own_question ps q) goals
asked_are ps q [] [] e h = refl
asked_are ps q [] (a ∷ all) e h = absurd (cc)
asked_are ps q (b ∷ goals) [] e h = absurd (cc)
asked_are ps q (b ∷ goals) (a ∷ all) e h =
    let first : a.0 ≡ goal_id b = cc in
    let others : map (λ (x : Asked). x.0) all ≡ map goal_id goals = cc in
    ap₂ (λ (x : NamedQuestion) (l : List NamedQuestion). x ∷ l) (ap (λ i. (i, one_bound q a.1)) first ∙ ap (λ k. (goal_id b, k)) (sym (h.0.asks b (sym first)))) (asked_are ps q goals all others h.1)

-- ---- The list of a procedure's goals

pub none_of : (b : Option (Vec A.Act Global)) → is_some b ≡ false → body_of b ≡ None
none_of None h = refl
none_of (Some acts) h = absurd (cc)

pub some_of : (b : Option (Vec A.Act Global)) → is_some b ≡ true → body_of b ≡ None → ⊥
some_of None h e = let k : false ≡ true = h in absurd (cc)
some_of (Some acts) h e = absurd (cc)

no_body : (q : TypedProcedure) → q.body ≡ None → bound_goals q ≡ []
no_body q h = rw h refl

main_alone : (q : TypedProcedure) (acts : Acts) → q.body ≡ Some acts → q.weak ≡ false → bound_goals q ≡ BoundGoal.main ∷ []
main_alone q acts h w = rw (h, w) refl

main_and_bounds : (q : TypedProcedure) (acts : Acts) → q.body ≡ Some acts → q.weak ≡ true → bound_goals q ≡ BoundGoal.main ∷ weak_goals q
main_and_bounds q acts h w = first ∙ ap (λ b. BoundGoal.main ∷ (BoundGoal.pre ∷ (BoundGoal.post ∷ map BoundGoal.invariant (loop_numbers (in_order (acts_in b)))))) (sym h)
  where
    first : bound_goals q ≡ BoundGoal.main ∷ (BoundGoal.pre ∷ (BoundGoal.post ∷ map BoundGoal.invariant (loop_numbers (in_order acts))))
    first = rw (h, w) refl

module _ (ps : List TypedProcedure) (p : ℕ) (x : TProc) (here : procedure_at ps p ≡ procedure_of x) where
  pub without_body : is_some x.body ≡ false → (gs : List NamedGoal) → gs ≡ [] → AreGoals ps p (bound_goals (procedure_at ps p)) gs
  without_body h gs e = subst (λ l. AreGoals ps p (bound_goals (procedure_at ps p)) l) (sym e) (subst (λ ids. AreGoals ps p ids []) (sym (ap bound_goals here ∙ no_body (procedure_of x) (none_of x.body h))) tt)

  pub main_first : (gs none : List NamedGoal) (g : NamedGoal) → gs ≡ none ++ g ∷ [] → none ≡ [] → g.proc ≡ p → g.id ≡ Main → IsMadeOf (question ps (procedure_at ps p) BoundGoal.main) g.made → AreMadeFor p (own_question ps (procedure_at ps p) BoundGoal.main ∷ []) gs
  main_first gs none g e f i j m = subst (λ l. AreMadeFor p (own_question ps (procedure_at ps p) BoundGoal.main ∷ []) l) (sym (e ∙ ap (λ l. l ++ g ∷ []) f)) (record { proc = i; id_of = j; made = m }, tt)

  strong : (b : Option (Vec A.Act Global)) → is_some b ≡ true → x.body ≡ b → x.weak ≡ false → bound_goals (procedure_of x) ≡ BoundGoal.main ∷ []
  strong None h e w = absurd (cc)
  strong (Some acts) h e w = main_alone (procedure_of x) _ (ap body_of e) w

  weak : (b : Option (Vec A.Act Global)) → is_some b ≡ true → x.body ≡ b → x.weak ≡ true → bound_goals (procedure_of x) ≡ BoundGoal.main ∷ weak_goals (procedure_of x)
  weak None h e w = absurd (cc)
  weak (Some acts) h e w = main_and_bounds (procedure_of x) _ (ap body_of e) w

  pub not_weak : is_some x.body ≡ true → x.weak ≡ false → (gs : List NamedGoal) → AreMadeFor p (own_question ps (procedure_at ps p) BoundGoal.main ∷ []) gs → AreGoals ps p (bound_goals (procedure_at ps p)) gs
  not_weak h w gs k = subst (λ goals. AreGoals ps p goals gs) (sym (ap bound_goals here ∙ strong x.body h refl w)) (goals_are_made ps p (BoundGoal.main ∷ []) gs k)

  pub each_asked : ((f : Form) → has_binder f ≡ false → binders f ≡ []) → MeetsRules ps (procedure_at ps p) → HasNamedBinders (procedure_at ps p) → (all : List declared.Asked) → map plain all ≡ asked (procedure_of x) → Each (IsAsked ps (procedure_at ps p)) (map plain all)
  each_asked unnamed rules names all e = subst (λ l. Each (IsAsked ps (procedure_at ps p)) l) (ap asked here ∙ sym e) (each_is_asked ps (procedure_at ps p) unnamed rules names)

  pub with_bounds : is_some x.body ≡ true → x.weak ≡ true → (all : List declared.Asked) → map plain all ≡ asked (procedure_of x) → Each (IsAsked ps (procedure_at ps p)) (map plain all) → (gs : List NamedGoal) → AreMadeFor p ((own_question ps (procedure_at ps p) BoundGoal.main ∷ []) ++ map (asked_question (procedure_at ps p)) (map plain all)) gs → AreGoals ps p (bound_goals (procedure_at ps p)) gs
  with_bounds h w all e each gs k =
      let goals = weak_goals (procedure_of x) in
      let same = asked_are ps (procedure_at ps p) goals (map plain all) (ap (λ l. map (λ (a : Asked). a.0) l) e ∙ asked_ids (procedure_of x)) each in
      subst (λ bs. AreGoals ps p bs gs) (sym (ap bound_goals here ∙ weak x.body h refl w)) (goals_are_made ps p (BoundGoal.main ∷ goals) gs (subst (λ l. AreMadeFor p (own_question ps (procedure_at ps p) BoundGoal.main ∷ l) gs) same k))
