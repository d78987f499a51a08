-- The program's result for a loop is that for its ranking.
use Rattle.std.proofs.Common.{◌≡◌, ◌∙◌, ◌<◌, ◌^◌, ℕ, refl, sym, ap, subst, arith, true, false, List, [], ◌∷◌, ◌++◌, map, length, get_or}
use Rattle.std.proofs.lemmas.List.{length-map}
use Rattle.std.proofs.lemmas.Result.{IfOk-weaker}
use Rattle.std.specs.Prelude.{Option, Some, None, Result, IfOk}
use Rattle.std.specs.declared.alloc.AllocError.{AllocError}
use Prim.Native.Nat.{zero, suc}
use Rattle.heyvl_num.specs.Rational.{Rational}
use Rattle.heylo_formula.specs.BinderNames.{Binder, binders}
use Rattle.heylo_formula.specs.Binders.{has_binder_in}
use Rattle.heylo_formula.specs.Formula.{Form}
use Rattle.heylo_formula.specs.Goals.{Goal}
use Rattle.heylo_formula.specs.PlainTrees.{cond_of, form_of}
use Rattle.heylo_formula.specs.declared.forms.Form as F
use Rattle.heylo_formula.specs.declared.goals.Made.{Made}
use Rattle.heylo_formula.specs.declared.goals.Made.TheVariants as made
use Rattle.heylo_formula.proofs.exported.BinderNames.{unnamed}
use Rattle.heylo_formula.proofs.exported.Plain.{typed_plain}
use Rattle.heyvl_acts.proofs.exported.PlainActsAre.{head_of}
use Rattle.heyvl_acts.specs.Acts.{Head, Act, Acts, Arms, TypedProcedure, Variable, acts_in, procedure_at, type_list, types_of, variables}
use Rattle.heyvl_acts.specs.Places.{in_order, inside, inside_arms}
use Rattle.heyvl_acts.specs.PlainActs.{acts_of, procedure_of, procedures_of, rank_of, variable_of}
use Rattle.heyvl_acts.specs.Rules.{AreNamed, Each, MeetsAllRules, MeetsRules}
use Rattle.heyvl_acts.specs.declared.acts.LoopAct.{LoopAct}
use Rattle.heyvl_acts.specs.declared.typed_trees.TProc.{TProc}
use Rattle.heyvl_acts.specs.declared.typed_trees.Typed.{Typed}
use Rattle.heyvl_acts.specs.declared.typed_trees.VarInfo.{VarInfo}
use Rattle.vp_generator.specs.Fit.{AreFit}
use Rattle.vp_generator.specs.PrenexedGoals.{IsMadeWithin, prenexed_goal}
use Rattle.vp_generator.specs.Scopes.{AnysAreBelow, AnysAreBelow_in, GeneratedFormIsNamed}
use Rattle.made_goals.specs.MadeGoals.{all_names, goal_over, names}
use Rattle.ranking_rule.specs.RankingGoals.{IsMadeOf, found, generated, goal}
use Rattle.act_walks.specs.Lent.{parts_of}
use Rattle.act_walks.specs.Loops.{loop_in}
use Rattle.ranking_rule.specs.Rankings.{RankedLoop}
use Rattle.heyvl_acts.specs.Upward.{upward, upward_next, upward_arms}
use Rattle.ranking_rule.specs.internal.GuardedGoals.{IsTested, with_test}
use Rattle.heyvl_acts.proofs.exported.Each.{each_at, each_first, each_second}
use Rattle.ranking_rule.proofs.FoundForms.{found_binders, goal_found}
use Rattle.made_goals.proofs.exported.MadeGoals.{fit_as, named_as}
use Rattle.ranking_rule.proofs.OwnVariables.{own_variables}
use Rattle.ranking_rule.proofs.RankedBodies.{IsTurnAct, body_acts, loop_fits, rank_fits, upward_fit}

-- ---- Upward, only variables of the procedure take any value

module _ (ps : List TypedProcedure) (p : TypedProcedure) where
  mutual
    pub upward_below : (acts : Acts) → Each (IsTurnAct ps p) (in_order acts) → AnysAreBelow (length (variables p)) (upward acts)
    upward_below Acts.done h = tt
    upward_below (Acts.next a rest) h = next_below a (upward rest) h.0 (each_first (IsTurnAct ps p) (inside a) (in_order rest) h.1) (upward_below rest (each_second (IsTurnAct ps p) (inside a) (in_order rest) h.1))

    next_below : (a : Act) (rest : Acts) → IsTurnAct ps p a → Each (IsTurnAct ps p) (inside a) → AnysAreBelow (length (variables p)) rest → AnysAreBelow (length (variables p)) (upward_next a rest)
    next_below (Act.set x t span) rest h i k = (tt, k)
    next_below (Act.draw x qs span) rest h i k = (tt, k)
    next_below (Act.toss x f span) rest h i k = (tt, k)
    next_below (Act.any x up ty span) rest h i k = (h.0.0.below, k)
    next_below (Act.reward f span) rest h i k = k
    next_below (Act.ifs arms e span) rest h i k = ((arms_below arms (each_first (IsTurnAct ps p) (inside_arms arms) (in_order e) i), upward_below e (each_second (IsTurnAct ps p) (inside_arms arms) (in_order e) i)), k)
    next_below (Act.pick up a b span) rest h i k = ((upward_below a (each_first (IsTurnAct ps p) (in_order a) (in_order b) i), upward_below b (each_second (IsTurnAct ps p) (in_order a) (in_order b) i)), k)
    next_below (Act.check kind f span) rest h i k = (tt, k)
    next_below (Act.validate co span) rest h i k = (tt, k)
    next_below (Act.loop g b) rest h i k = (tt, k)
    next_below (Act.call xs q es span) rest h i k = (tt, k)

    arms_below : (arms : Arms) → Each (IsTurnAct ps p) (inside_arms arms) → AnysAreBelow_in (length (variables p)) (upward_arms arms)
    arms_below Arms.no_arm i = tt
    arms_below (Arms.arm c b more) i = (upward_below b (each_first (IsTurnAct ps p) (in_order b) (inside_arms more) i), arms_below more (each_second (IsTurnAct ps p) (in_order b) (inside_arms more) i))

-- ---- A loop with a ranking

module _ (ps : List TypedProcedure) (p : TypedProcedure) (n : ℕ) (l : RankedLoop p n) (rules : MeetsRules ps p) where
  pub guard_plain : has_binder_in l.head.guard ≡ false
  guard_plain = typed_plain (types_of p) l.head.guard (loop_fits ps p n l rules).guard

  pub loop_fit : AreFit (upward l.body) l.rank.1
  loop_fit = record { types = types_of p; fit = upward_fit ps p l.body (body_acts ps p n l rules); formula = (rank_fits ps p n l rules).1.0 }

  none_named : AreNamed (length (variables p)) (binders l.rank.1)
  none_named = subst (λ bs. AreNamed (length (variables p)) bs) (sym (unnamed l.rank.1 (rank_fits ps p n l rules).1.1)) tt

  pub loop_named : GeneratedFormIsNamed → AreNamed (length (variables p)) (binders (generated l.body l.rank))
  loop_named law = law (length (variables p)) (types_of p) (upward l.body) l.rank.1 (upward_fit ps p l.body (body_acts ps p n l rules)) (upward_below ps p l.body (body_acts ps p n l rules)) none_named

-- ---- The results

made_goal : (p : TypedProcedure) (h : Head) (b : Acts) (r : Rational × Form) → has_binder_in h.guard ≡ false → with_test h.guard r.0 (goal_over true (variables p) r.1 (generated b r)) ≡ goal p h b r
made_goal p h b r g =
    goal_found h b r g (type_list (variables p)) (all_names (variables p) (generated b r))
    ∙ ap (λ (bs : List Binder). prenexed_goal true (type_list (variables p)) (names (variables p) ++ map (λ (b : Binder). get_or (names (variables p)) b.0 []) bs) r.1 (found h b r)) (sym (found_binders h b r g))

tested_made : (p : TypedProcedure) (h : Head) (b : Acts) (r : Rational × Form) (before after : Made) → has_binder_in h.guard ≡ false → IsMadeWithin (generated b r) (goal_over true (variables p) r.1 (generated b r)) before → IsTested h.guard r.0 before after → IsMadeOf p h b r after
tested_made p h b r (made.Goal x) (made.Goal y) g m t = (t ∙ (ap (λ (z : Goal). with_test h.guard r.0 z) m.0 ∙ made_goal p h b r g), m.1)
tested_made p h b r (made.Goal x) made.Depth g m t = absurd t
tested_made p h b r (made.Goal x) made.Nodes g m t = absurd t
tested_made p h b r made.Depth after g m t = subst (IsMadeOf p h b r) (sym t) m
tested_made p h b r made.Nodes after g m t = subst (IsMadeOf p h b r) (sym t) m

-- ---- The program's loop

some_some : {A : Type 0} (x y : A) → Some x ≡ Some y → x ≡ y
some_some x y e = cc

pub one_loop : (p : TypedProcedure) (n : ℕ) (l m : RankedLoop p n) (made : Made) → IsMadeOf p l.head l.body l.rank made → IsMadeOf p m.head m.body m.rank made
one_loop p n l m made h = subst (λ r. IsMadeOf p m.head m.body r made) rank (subst (λ (x : Head × Acts). IsMadeOf p x.0 x.1 l.rank made) loops h)
  where
    first : Head × Acts
    first = (l.head, l.body)

    second : Head × Acts
    second = (m.head, m.body)

    loops : first ≡ second
    loops = some_some first second (sym l.named ∙ m.named)

    rank : l.rank ≡ m.rank
    rank = some_some l.rank m.rank (sym l.ranked ∙ (ap (λ (x : Head × Acts). x.0.rank) loops ∙ m.ranked))

-- ---- The procedures of a file

pub procedure_is : (procs : List TProc) (p : ℕ) (x : TProc) → p < length procs → x ≡ get_or procs p x → procedure_at (map procedure_of procs) p ≡ procedure_of x
procedure_is [] p x lt is = absurd (omega (arith, lt))
procedure_is (y ∷ rest) zero x lt is = ap procedure_of (sym is)
procedure_is (y ∷ rest) (suc p) x lt is = procedure_is rest p x (omega (arith, lt)) is

pub rules_at : (typed : Typed) (p : ℕ) → MeetsAllRules typed → p < length typed.procs.items → MeetsRules (procedures_of typed) (procedure_at (procedures_of typed) p)
rules_at typed p h lt = each_at (MeetsRules (procedures_of typed)) (procedures_of typed) p h.each (subst (λ n. p < n) (sym (length-map typed.procs.items procedure_of)) lt)

-- ---- The loop that the program finds

module _ (typed : Typed) (p n : ℕ) (x : TProc) (all : MeetsAllRules typed) (there : p < length typed.procs.items) (is : x ≡ get_or typed.procs.items p x) where
  named_loop : (o : Option (Head × Acts)) → o ≡ loop_in n (in_order (acts_in (procedure_of x).body)) → o ≡ loop_in n (in_order (acts_in (procedure_at (procedures_of typed) p).body))
  named_loop o e = e ∙ ap (λ (q : TypedProcedure). loop_in n (in_order (acts_in q.body))) (sym (procedure_is typed.procs.items p x there is))

  pub no_loop : RankedLoop (procedure_at (procedures_of typed) p) n → None ≡ loop_in n (in_order (acts_in (procedure_of x).body)) → ⊥
  no_loop l e = absurd (let k = named_loop None e ∙ l.named in cc)

  pub vars_are : variables (procedure_at (procedures_of typed) p) ≡ map variable_of x.vars.items
  vars_are = ap (λ (q : TypedProcedure). variables q) (procedure_is typed.procs.items p x there is) ∙ own_variables x

  pub few_vars : length x.vars.items < 2 ^ 30
  few_vars = let f = (rules_at typed p all there).few_variables in let e = ap (λ (l : List Variable). length l) vars_are in let m = length-map x.vars.items variable_of in omega (arith, f, e, m)

  module _ (one : LoopAct) (found : Some (parts_of one) ≡ loop_in n (in_order (acts_in (procedure_of x).body))) where
    pub no_rank : RankedLoop (procedure_at (procedures_of typed) p) n → one.rank ≡ None → ⊥
    no_rank l f = absurd (let k = sym l.ranked ∙ (sym (ap (λ (y : Head × Acts). y.0.rank) (some_some (parts_of one) pair (named_loop (Some (parts_of one)) found ∙ l.named))) ∙ ap rank_of f) in cc)
      where
        pair : Head × Acts
        pair = (l.head, l.body)

    module _ (step : Rational) (ranking : F.Form) (ranked : one.rank ≡ Some (step, ranking)) where
      abbrev here : RankedLoop (procedure_at (procedures_of typed) p) n
      here = record { head = head_of one; body = acts_of one.body.items; rank = (step, form_of ranking); named = sym (named_loop (Some (parts_of one)) found); ranked = ap rank_of ranked }

      rules : MeetsRules (procedures_of typed) (procedure_at (procedures_of typed) p)
      rules = rules_at typed p all there

      pub is_fit : (acts : Acts) → acts ≡ upward (acts_of one.body.items) → AreFit acts (form_of ranking)
      is_fit acts e = fit_as acts (upward (acts_of one.body.items)) (form_of ranking) (form_of ranking) e refl (loop_fit (procedures_of typed) (procedure_at (procedures_of typed) p) n here rules)

      pub are_named : GeneratedFormIsNamed → (form : Form) → form ≡ generated (acts_of one.body.items) (step, form_of ranking) → AreNamed (length x.vars.items) (binders form)
      are_named law form e = named_as (length x.vars.items) (length (variables (procedure_at (procedures_of typed) p))) form (generated (acts_of one.body.items) (step, form_of ranking)) (sym (length-map x.vars.items variable_of) ∙ ap (λ (l : List Variable). length l) (sym vars_are)) e (loop_named (procedures_of typed) (procedure_at (procedures_of typed) p) n here rules law)

      pub is_made : (vs : List VarInfo) (form : Form) (before : Made) (result : Result Made AllocError) → vs ≡ x.vars.items → form ≡ generated (acts_of one.body.items) (step, form_of ranking) → IsMadeWithin form (goal_over true (map variable_of vs) (form_of ranking) form) before → IfOk result (λ after. IsTested (cond_of one.guard) step before after) → (l : RankedLoop (procedure_at (procedures_of typed) p) n) → IfOk result (λ m. IsMadeOf (procedure_at (procedures_of typed) p) l.head l.body l.rank m)
      is_made vs form before result v e h t l = IfOk-weaker result (λ after. IsTested (cond_of one.guard) step before after) (λ m. IsMadeOf (procedure_at (procedures_of typed) p) l.head l.body l.rank m) (λ after k. one_loop (procedure_at (procedures_of typed) p) n here l after (tested_made (procedure_at (procedures_of typed) p) (head_of one) (acts_of one.body.items) (step, form_of ranking) before after (guard_plain (procedures_of typed) (procedure_at (procedures_of typed) p) n here rules) own k)) t
        where
          own : IsMadeWithin (generated (acts_of one.body.items) (step, form_of ranking)) (goal_over true (variables (procedure_at (procedures_of typed) p)) (form_of ranking) (generated (acts_of one.body.items) (step, form_of ranking))) before
          own = subst (λ f. IsMadeWithin f (goal_over true (variables (procedure_at (procedures_of typed) p)) (form_of ranking) f) before) e (subst (λ us. IsMadeWithin form (goal_over true us (form_of ranking) form) before) (ap (λ l. map variable_of l) v ∙ sym vars_are) h)
