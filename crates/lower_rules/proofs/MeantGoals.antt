-- The goals of an omega pair can be decided. If they hold, the formula is an omega invariant; if
-- one fails in a state, the inequality fails there for some choices.
use Rattle.std.proofs.Common.{◌≡◌, ◌∙◌, ◌^◌, ℕ, refl, sym, ap, ap₂, subst, arith, false, List, [], ◌∷◌, ◌++◌, length, take}
use Rattle.std.proofs.lemmas.List.{length-append}
use Rattle.std.specs.Prelude.{if◌then◌else◌, pos}
use Prim.Native.Nat.{suc}
use Rattle.heyvl_num.specs.Rational.{ratio, zeroʳ, oneʳ}
use Rattle.heyvl_num.specs.Value.{zeroᵛ, oneᵛ, ◌+ᵛ◌, ◌≤ᵛ◌}
use Rattle.heyvl_num.specs.Value.Value.{finite}
use Rattle.heyvl_num.proofs.exported.Values.{finite-+}
use Rattle.heylo_formula.specs.BinderNames.{binders}
use Rattle.heylo_formula.specs.Choices.{Choices, left}
use Rattle.heylo_formula.specs.Formula.{Form}
use Rattle.heylo_formula.specs.Goals.{Holds}
use Rattle.heylo_formula.specs.Meaning.{value, holds, term_value}
use Rattle.heylo_formula.specs.Operators.{finite_part}
use Rattle.heylo_formula.specs.State.{Env, put, number_of, environment}
use Rattle.heylo_formula.specs.TypedGoals.{IsGoal}
use Rattle.heylo_formula.specs.Typing.{types_in}
use Rattle.heylo_formula.specs.Variables.{IsOver}
use Rattle.heylo_formula.specs.declared.types.Ty.{Ty}
use Rattle.heylo_formula.specs.declared.values.Val.{Val}
use Rattle.heylo_formula.specs.declared.values.Val.TheVariants.{Num}
use Rattle.heylo_formula.proofs.exported.Agreement.{same_on, same_on_in, three, unchosen_in}
use Rattle.heylo_formula.proofs.exported.Substitutions.{subst_value}
use Rattle.heyvl_acts.specs.Acts.{TypedProcedure, type_list, variables}
use Rattle.heyvl_acts.specs.FormSizes.{FormsWithin}
use Rattle.heyvl_acts.specs.Forward.{forward}
use Rattle.heyvl_acts.specs.Rules.{Each, MeetsRules}
use Rattle.heyvl_acts.proofs.exported.UpwardMeaning.{behind}
use Rattle.made_goals.specs.MadeGoals.{all_names}
use Rattle.made_goals.proofs.exported.MadeGoals.{all_names_length, new_types_length}
use Rattle.ranking_rule.proofs.exported.PrenexedSizes.{nodes_unbound}
use Rattle.region_split.specs.Meanings.{Fails}
use Rattle.run_machine.specs.Bound.{IsState}
use Rattle.vp_generator.specs.Laws.{GeneratedFormMeansActs, GeneratedFormIsFormula}
use Rattle.vp_generator.specs.Limits.{IsSmall}
use Rattle.vp_generator.specs.Over.{GeneratedFormIsOver}
use Rattle.vp_generator.specs.PrenexedForms.{new_types}
use Rattle.vp_generator.specs.PrenexedGoals.{FailsByChoices, HoldsByChoices, PrenexedGoalsAreGoals, PrenexedGoalsFailByChoices, PrenexedGoalsSpeakOfChoices, prenexed_goal}
use Rattle.vp_generator.specs.PrenexLaws.{PrenexedFormHasNoBinder, PrenexedFormIsFormula}
use Rattle.lower_rules.specs.Omega.{IsOmega, turns_value, with_turns}
use Rattle.lower_goals.specs.OmegaGoals.{after_body, after_loop, goal_variables, greater, limited, smaller, step_goal}
use Rattle.lower_goals.specs.OmegaPairs.{IsOmegaPair, formula_of}
use Rattle.lower_goals.specs.OneLoop.{OneLoop}
use Rattle.lower_goals.specs.declared.answers.Step.{Step}
use Rattle.lower_goals.specs.declared.answers.Step.TheVariants.{Base, Turn}
use Rattle.lower_rules.specs.internal.Decidable.{IsDecidable}
use Rattle.lower_rules.proofs.Apart.{acts_stand_apart}
use Rattle.lower_goals.proofs.exported.GoalForms.{behind_fit, body_fit, body_over, greater_few, greater_over, greater_typed, loop_over, no_turn, no_turn_plain, one_more, one_more_plain, smaller_few, smaller_over, smaller_plain, smaller_typed}
use Rattle.lower_goals.proofs.exported.GoalVariables.{goal_types, types_length}
use Rattle.lower_rules.proofs.GoalStates.{more_first, more_is, more_last, more_state, more_typed, put_more, turns_more}
use Rattle.lower_goals.proofs.exported.OmegaParts.{body_acts, formula_over, formula_plain, guard_over, guard_plain}
use Rattle.lower_rules.proofs.TurnsApart.{acts_lack}

-- ---- Terms that are substituted

no_turn_value : (e : Env) → term_value no_turn e ≡ turns_value 0
unfolding zeroᵛ zeroʳ
no_turn_value e = refl

one_more_value : (n : ℕ) (e : Env) (m : ℕ) → e n ≡ turns_value m → term_value (one_more n) e ≡ turns_value (suc m)
unfolding oneᵛ
one_more_value n e m h = ap (λ v. Num (finite_part (finite (number_of v) +ᵛ oneᵛ))) h ∙ (ap (λ u. Num (finite_part u)) (finite-+ (ratio (pos m) 1) oneʳ) ∙ ap (λ x. Num x) (turns_more m))

module _ (ps : List TypedProcedure) (p : TypedProcedure) (rules : MeetsRules ps p) (l : OneLoop p) (q : TypedProcedure) (q_rules : MeetsRules ps q) (pair : IsOmegaPair p l.head q) where
  abbrev tys : List Ty
  tys = type_list (goal_variables p l.head q)

  are : type_list (goal_variables p l.head q) ≡ type_list (variables p) ++ Ty.UInt ∷ []
  are = goal_types p l.head q pair

  abbrev Small : Step → Form
  Small step = smaller (length (variables p)) (formula_of p l.head q) step

  abbrev Great : Step → Form
  Great step = greater p l.head l.body l.behind (formula_of p l.head q) step

  small_over : (step : Step) → IsOver (length (type_list (goal_variables p l.head q))) (Small step)
  small_over step = subst (λ n. IsOver n (Small step)) (sym (types_length p (type_list (goal_variables p l.head q)) are)) (smaller_over ps p rules l q q_rules pair step)

  great_over : GeneratedFormIsOver → (step : Step) → IsOver (length (type_list (goal_variables p l.head q))) (Great step)
  great_over law step = subst (λ n. IsOver n (Great step)) (sym (types_length p (type_list (goal_variables p l.head q)) are)) (greater_over ps p rules l q q_rules pair law step)

  -- ---- The goals can be decided

  is_goal : GeneratedFormIsFormula → GeneratedFormIsOver → PrenexedFormIsFormula → PrenexedFormHasNoBinder → PrenexedGoalsAreGoals → (step : Step) → IsGoal (prenexed_goal false (type_list (goal_variables p l.head q)) (all_names (goal_variables p l.head q) (Great step)) (Small step) (Great step))
  is_goal formula over typed plain law step = law false (type_list (goal_variables p l.head q)) (all_names (goal_variables p l.head q) (Great step)) (Small step) (Great step) (smaller_typed ps p rules l q q_rules pair (type_list (goal_variables p l.head q)) are typed step) (greater_typed ps p rules l q q_rules pair (type_list (goal_variables p l.head q)) are formula typed step) (small_over step) (great_over over step) (smaller_plain ps p rules l q q_rules pair (type_list (goal_variables p l.head q)) are plain step) (all_names_length (goal_variables p l.head q) (Great step))

  pub goal_decidable : GeneratedFormIsFormula → GeneratedFormIsOver → PrenexedFormIsFormula → PrenexedFormHasNoBinder → PrenexedGoalsAreGoals → FormsWithin (2 ^ 27) p → FormsWithin (2 ^ 27) q → (step : Step) → Each IsSmall (limited p l.body l.behind (formula_of p l.head q) step) → IsDecidable (step_goal p l.head l.body l.behind q step)
  goal_decidable formula over typed plain law within other_within step small =
      let g = is_goal formula over typed plain law step in
      let a = greater_few ps p rules l q q_rules pair within step small in
      let b = nodes_unbound (λ x. x) (length (type_list (goal_variables p l.head q))) (Great step) in
      let c = length-append (type_list (goal_variables p l.head q)) (new_types (binders (Great step))) in
      let d = new_types_length (binders (Great step)) in
      let e = types_length p (type_list (goal_variables p l.head q)) are in
      let f = rules.few_variables in
      record {
        typed = record { stated = g.typed.found; found = g.typed.stated };
        over = record { stated = g.over.found; found = g.over.stated };
        stated = omega (arith, a, b);
        found = smaller_few ps p rules l q q_rules pair other_within plain step;
        variables = omega (arith, a, b, c, d, e, f);
      }

  -- ---- A goal that fails

  pub goal_fails : GeneratedFormIsOver → PrenexedGoalsFailByChoices → (step : Step) (s : List Val) → Fails (step_goal p l.head l.body l.behind q step) s → FailsByChoices false (type_list (goal_variables p l.head q)) (Small step) (Great step) (take (length (type_list (goal_variables p l.head q))) s)
  goal_fails over law step s h = law false (type_list (goal_variables p l.head q)) (all_names (goal_variables p l.head q) (Great step)) (Small step) (Great step) (small_over step) (great_over over step) s h.typed h.fails

  -- ---- Goals that hold

  by_choices : GeneratedFormIsOver → PrenexedGoalsSpeakOfChoices → (step : Step) → Holds (step_goal p l.head l.body l.behind q step) → HoldsByChoices false (type_list (goal_variables p l.head q)) (Small step) (Great step)
  by_choices over law step h = (law false (type_list (goal_variables p l.head q)) (all_names (goal_variables p l.head q) (Great step)) (Small step) (Great step) (small_over step) (great_over over step)).1 h

  module _ (means : GeneratedFormMeansActs) (over : GeneratedFormIsOver) (plain : PrenexedFormHasNoBinder) (s : List Val) (state : IsState p s) (m : ℕ) where
    abbrev e : Env
    e = environment (more_state p s state m)

    guard_same : (c : Choices) → holds l.head.guard (environment (more_state p s state m)) c ≡ holds l.head.guard (environment s) Choices.stop
    guard_same c = unchosen_in l.head.guard (environment (more_state p s state m)) c (guard_plain ps p rules l) ∙ same_on_in l.head.guard (environment (more_state p s state m)) (environment s) Choices.stop (λ y k. more_first p s state m y (guard_over ps p rules l y k))

    loop_value : (c : Choices) → value (after_loop p l.behind) (environment (more_state p s state m)) c ≡ forward l.behind (value p.post) (environment s) c
    loop_value c = same_on (after_loop p l.behind) (environment (more_state p s state m)) (environment s) c (λ y k. more_first p s state m y (loop_over ps p rules l q q_rules pair over y k)) ∙ means (types_in (type_list (goal_variables p l.head q))) l.behind p.post (environment s) c (behind_fit ps p rules l q q_rules pair (type_list (goal_variables p l.head q)) are)

    body_value : (c : Choices) → value (after_body l.body (formula_of p l.head q)) (environment (more_state p s state m)) c ≡ forward l.body (λ t d. value (formula_of p l.head q) (with_turns (length (variables p)) m t) Choices.stop) (environment s) c
    body_value c =
        same_on (after_body l.body (formula_of p l.head q)) (environment (more_state p s state m)) (with_turns (length (variables p)) m (environment s)) c (λ y k. more_is p s state m y (body_over ps p rules l q q_rules pair over y k))
        ∙ (means (types_in (type_list (goal_variables p l.head q))) l.body (formula_of p l.head q) (with_turns (length (variables p)) m (environment s)) c (body_fit ps p rules l q q_rules pair (type_list (goal_variables p l.head q)) are)
        ∙ acts_stand_apart (length (variables p)) l.body (formula_of p l.head q) (turns_value m) (environment s) c (acts_lack ps p l.body (body_acts ps p rules l)) (formula_plain ps p rules l q q_rules pair plain))

    put_value : (v : Val) → value (formula_of p l.head q) (put (length (variables p)) v (environment (more_state p s state m))) Choices.stop ≡ value (formula_of p l.head q) (put (length (variables p)) v (environment s)) Choices.stop
    put_value v = same_on (formula_of p l.head q) (put (length (variables p)) v (environment (more_state p s state m))) (put (length (variables p)) v (environment s)) Choices.stop (λ y k. put_more p s state m v y (formula_over ps p rules l q q_rules pair y k))

    pub none_value : value (Small Base) (environment (more_state p s state m)) Choices.stop ≡ value (formula_of p l.head q) (with_turns (length (variables p)) 0 (environment s)) Choices.stop
    none_value =
        subst_value (length (variables p)) no_turn (formula_of p l.head q) (environment (more_state p s state m)) Choices.stop (no_turn_plain ps p rules l q q_rules pair (type_list (goal_variables p l.head q)) are)
        ∙ (ap (λ v. value (formula_of p l.head q) (put (length (variables p)) v (environment (more_state p s state m))) Choices.stop) (no_turn_value (environment (more_state p s state m)))
        ∙ put_value (turns_value 0))

    pub more_value : value (Small Turn) (environment (more_state p s state m)) Choices.stop ≡ value (formula_of p l.head q) (with_turns (length (variables p)) (suc m) (environment s)) Choices.stop
    more_value =
        subst_value (length (variables p)) (one_more (length (variables p))) (formula_of p l.head q) (environment (more_state p s state m)) Choices.stop (one_more_plain ps p rules l q q_rules pair (type_list (goal_variables p l.head q)) are)
        ∙ (ap (λ v. value (formula_of p l.head q) (put (length (variables p)) v (environment (more_state p s state m))) Choices.stop) (one_more_value (length (variables p)) (environment (more_state p s state m)) m (more_last p s state m))
        ∙ put_value (turns_value (suc m)))

    pub base_value : (c : Choices) → value (Great Base) (environment (more_state p s state m)) (behind c) ≡ (if holds l.head.guard (environment s) Choices.stop then zeroᵛ else forward l.behind (value p.post) (environment s) c)
    base_value c = ap₂ (λ b v. if b then zeroᵛ else v) (guard_same (left (behind c))) (loop_value c)

    pub turn_value : (c : Choices) → value (Great Turn) (environment (more_state p s state m)) (behind c) ≡ (if holds l.head.guard (environment s) Choices.stop then forward l.body (λ t d. value (formula_of p l.head q) (with_turns (length (variables p)) m t) Choices.stop) (environment s) c else forward l.behind (value p.post) (environment s) c)
    turn_value c = three (guard_same (left (behind c))) (body_value c) (loop_value c)

  pub goals_say_omega : GeneratedFormMeansActs → GeneratedFormIsOver → PrenexedFormHasNoBinder → PrenexedGoalsSpeakOfChoices → Holds (step_goal p l.head l.body l.behind q Base) → Holds (step_goal p l.head l.body l.behind q Turn) → IsOmega p l.head l.body l.behind (formula_of p l.head q)
  goals_say_omega means over plain law b t = record {
    base = λ s c st. subst (λ v. v ≤ᵛ (if holds l.head.guard (environment s) Choices.stop then zeroᵛ else forward l.behind (value p.post) (environment s) c)) (none_value means over plain s st 0) (subst (λ v. value (Small Base) (environment (more_state p s st 0)) Choices.stop ≤ᵛ v) (base_value means over plain s st 0 c) (by_choices over law Base b (more_state p s st 0) (behind c) (more_typed p s st 0 (type_list (goal_variables p l.head q)) are)));
    turn = λ s c m st. subst (λ v. v ≤ᵛ (if holds l.head.guard (environment s) Choices.stop then forward l.body (λ t d. value (formula_of p l.head q) (with_turns (length (variables p)) m t) Choices.stop) (environment s) c else forward l.behind (value p.post) (environment s) c)) (more_value means over plain s st m) (subst (λ v. value (Small Turn) (environment (more_state p s st m)) Choices.stop ≤ᵛ v) (turn_value means over plain s st m c) (by_choices over law Turn t (more_state p s st m) (behind c) (more_typed p s st m (type_list (goal_variables p l.head q)) are)));
  }
