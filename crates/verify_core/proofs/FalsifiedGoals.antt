-- If a goal without binders fails in a state, the formulas it was made from fail there by their
-- meaning.
use Rattle.std.proofs.Common.{◌≡◌, ◌<◌, ℕ, refl, sym, ap, ◌∙◌, subst, append_assoc, List, [], ◌∷◌, ◌++◌, length, take}
use Rattle.std.proofs.lemmas.List.{length-map}
use Rattle.std.specs.Prelude.{Option, Some, None}
use Rattle.heyvl_num.specs.Value.{◌≤ᵛ◌, oneᵛ}
use Rattle.heyvl_num.proofs.exported.Values.{zero-≤ᵛ-one}
use Rattle.heylo_formula.specs.BinderNames.{binders}
use Rattle.heylo_formula.specs.Choices.{Choices}
use Rattle.heylo_formula.specs.Formula.{Form}
use Rattle.heylo_formula.specs.Goals.{Compares}
use Rattle.heylo_formula.specs.Meaning.{value}
use Rattle.heylo_formula.specs.State.{IsTyped, environment}
use Rattle.heylo_formula.specs.Typing.{types_in}
use Rattle.heylo_formula.specs.declared.types.Ty.{Ty}
use Rattle.heylo_formula.specs.declared.values.Val.{Val}
use Rattle.heyvl_acts.specs.Acts.{TypedProcedure, Variable, acts_in, procedure_at, type_list, variables}
use Rattle.heyvl_acts.specs.Forward.{forward}
use Rattle.heyvl_acts.specs.Places.{in_order}
use Rattle.heyvl_acts.specs.Rules.{Each, MeetsRules}
use Rattle.loop_encodings.specs.BoundGoals.{BoundGoal, GoalFails, IsSmallThere, goal_id, goal_variables, invariant_in}
use Rattle.loop_encodings.specs.Encoding.{all_variables, encoding}
use Rattle.loop_encodings.specs.EncodingLaws.{EncodingIsOver}
use Rattle.loop_encodings.specs.Fresh.{fresh}
use Rattle.loop_encodings.proofs.exported.EncodedTypes.{encoding_fits}
use Rattle.loop_encodings.proofs.exported.FromRules.{each_at}
use Rattle.region_split.specs.Meanings.{Fails}
use Rattle.made_goals.specs.MadeGoals.{all_names}
use Rattle.run_machine.specs.Bound.{IsState}
use Rattle.verify_core.specs.Headline.{IsFalsifiedIn}
use Rattle.verify_core.specs.Questions.{form_or_zero, goal, question}
use Rattle.verify_core.proofs.AskedGoals.{proper}
use Rattle.vp_generator.specs.Laws.{GeneratedFormIsFormula, GeneratedFormMeansActs}
use Rattle.vp_generator.specs.Over.{GeneratedFormIsOver}
use Rattle.vp_generator.specs.PrenexedForms.{new_types}
use Rattle.vp_generator.specs.PrenexedGoals.{FailsByChoices, PrenexedGoalsFailByChoices}

types_length : (vs : List Variable) → length (type_list vs) ≡ length vs
types_length vs = length-map vs (λ (v : Variable). v.ty)

types_append : (us vs : List Variable) → type_list (us ++ vs) ≡ type_list us ++ type_list vs
types_append [] vs = refl
types_append (u ∷ us) vs = ap (λ l. u.ty ∷ l) (types_append us vs)

take_none : {A : Type 0} (xs : List A) → take 0 xs ≡ []
take_none [] = refl
take_none (x ∷ xs) = refl

first_typed : (tys us : List Ty) (r : List Val) → IsTyped (tys ++ us) r → IsTyped tys (take (length tys) r)
first_typed [] us r h = take_none r
first_typed (t ∷ tys) us [] h = absurd h
first_typed (t ∷ tys) us (u ∷ r) h = (h.0, first_typed tys us r h.1)

first_state : (vs : List Variable) (us : List Ty) (r : List Val) → IsTyped (type_list vs ++ us) r → IsTyped (type_list vs) (take (length vs) r)
first_state vs us r h = subst (λ n. IsTyped (type_list vs) (take n r)) (types_length vs) (first_typed (type_list vs) us r h)

small_fails : (o : Option Form) (s : List Val) (c : Choices) → (value (form_or_zero o) (environment s) c ≤ᵛ oneᵛ → ⊥) → IsSmallThere o s c → ⊥
small_fails None s c h k = h zero-≤ᵛ-one
small_fails (Some f) s c h k = h k

module _ (means : GeneratedFormMeansActs) (formula : GeneratedFormIsFormula) (generated_over : GeneratedFormIsOver) (over : EncodingIsOver) (failing : PrenexedGoalsFailByChoices) (ps : List TypedProcedure) (rules : Each (MeetsRules ps) ps) (p : ℕ) (there : p < length ps) where
  question_fails : (asked : BoundGoal) (s : List Val) → Fails (goal (question ps (procedure_at ps p) asked)) s → FailsByChoices (question ps (procedure_at ps p) asked).upper (type_list (question ps (procedure_at ps p) asked).variables) (question ps (procedure_at ps p) asked).stated (question ps (procedure_at ps p) asked).found (take (length (type_list (question ps (procedure_at ps p) asked).variables)) s)
  question_fails asked s h =
      let q = question ps (procedure_at ps p) asked in
      let k = proper formula generated_over over ps rules p there asked in
      failing q.upper (type_list q.variables) (all_names q.variables q.found) q.stated q.found k.stated_over k.found_over s h.typed h.fails

  meaning : (s : List Val) (c : Choices) → value (question ps (procedure_at ps p) BoundGoal.main).found (environment s) c ≡ forward (encoding ps (procedure_at ps p)) (value (procedure_at ps p).post) (environment s) c
  meaning s c = means (types_in (type_list (all_variables ps (procedure_at ps p)))) (encoding ps (procedure_at ps p)) (procedure_at ps p).post (environment s) c (encoding_fits ps (procedure_at ps p) (λ r l. each_at (MeetsRules ps) ps r rules l) (each_at (MeetsRules ps) ps p rules there))

  goal_fails : (asked : BoundGoal) (s : List Val) → FailsByChoices (question ps (procedure_at ps p) asked).upper (type_list (question ps (procedure_at ps p) asked).variables) (question ps (procedure_at ps p) asked).stated (question ps (procedure_at ps p) asked).found s → GoalFails ps (procedure_at ps p) asked s
  goal_fails BoundGoal.main s f = record {
    choices = f.choices;
    state = f.state;
    fails = λ h. f.fails (subst (λ v. Compares (procedure_at ps p).co (value (procedure_at ps p).pre (environment s) Choices.stop) v) (sym (meaning s f.choices)) h);
  }
  goal_fails BoundGoal.pre s f = record { choices = f.choices; state = f.state; fails = λ h. f.fails h }
  goal_fails BoundGoal.post s f = record { choices = f.choices; state = f.state; fails = λ h. f.fails h }
  goal_fails (BoundGoal.invariant n) s f = record { choices = f.choices; state = f.state; fails = λ h. small_fails (invariant_in n (in_order (acts_in (procedure_at ps p).body))) s f.choices (λ k. f.fails k) h }

  own_state : (asked : BoundGoal) (s : List Val) → IsTyped (type_list (question ps (procedure_at ps p) asked).variables ++ new_types (binders (question ps (procedure_at ps p) asked).found)) s → IsState (procedure_at ps p) (take (length (variables (procedure_at ps p))) s)
  own_state BoundGoal.main s h =
      let q = procedure_at ps p in
      let more = new_types (binders (question ps q BoundGoal.main).found) in
      first_state (variables q) (type_list (fresh ps (acts_in q.body)) ++ more) s (subst (λ l. IsTyped l s) (ap (λ l. l ++ more) (types_append (variables q) (fresh ps (acts_in q.body))) ∙ append_assoc (type_list (variables q)) (type_list (fresh ps (acts_in q.body))) more) h)
  own_state BoundGoal.pre s h = first_state (variables (procedure_at ps p)) _ s h
  own_state BoundGoal.post s h = first_state (variables (procedure_at ps p)) _ s h
  own_state (BoundGoal.invariant n) s h = first_state (variables (procedure_at ps p)) _ s h

  variables_are : (asked : BoundGoal) → length (type_list (question ps (procedure_at ps p) asked).variables) ≡ length (goal_variables ps (procedure_at ps p) asked)
  variables_are BoundGoal.main = types_length (all_variables ps (procedure_at ps p))
  variables_are BoundGoal.pre = types_length (variables (procedure_at ps p))
  variables_are BoundGoal.post = types_length (variables (procedure_at ps p))
  variables_are (BoundGoal.invariant n) = types_length (variables (procedure_at ps p))

  pub falsified_in : (asked : BoundGoal) (s : List Val) → Fails (goal (question ps (procedure_at ps p) asked)) s → IsFalsifiedIn ps p (goal_id asked) s
  falsified_in asked s h = record {
    goal = asked;
    id_of = refl;
    state = own_state asked s h.typed;
    fails = subst (λ n. GoalFails ps (procedure_at ps p) asked (take n s)) (variables_are asked) (goal_fails asked (take (length (type_list (question ps (procedure_at ps p) asked).variables)) s) (question_fails asked s h));
  }
