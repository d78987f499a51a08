-- The goal of a remainder holds exactly if the bound is at least the pre-expectation of the ranking
-- over the acts; it is a goal, with few nodes and variables.
use Rattle.std.proofs.Common.{◌≡◌, ◌^◌, ℕ, sym, subst, arith, true, List, length, take}
use Rattle.std.proofs.lemmas.List.{length-append, length-map}
use Rattle.heyvl_num.specs.Rational.{Rational}
use Rattle.heyvl_num.specs.Value.{◌≤ᵛ◌}
use Rattle.heylo_formula.specs.BinderNames.{binders}
use Rattle.heylo_formula.specs.Choices.{Choices}
use Rattle.heylo_formula.specs.Formula.{Form}
use Rattle.heylo_formula.specs.Goals.{Holds}
use Rattle.heylo_formula.specs.Meaning.{value}
use Rattle.heylo_formula.specs.State.{Env, environment}
use Rattle.heylo_formula.specs.TypedGoals.{IsGoal}
use Rattle.heylo_formula.specs.Typing.{IsFormula, types_in}
use Rattle.heylo_formula.specs.Variables.{IsOver}
use Rattle.heylo_formula.specs.declared.values.Val.{Val}
use Rattle.heyvl_acts.specs.Acts.{Acts, TypedProcedure, Variable, type_list, types_of, variables}
use Rattle.heyvl_acts.specs.FormSizes.{FormsWithin}
use Rattle.heyvl_acts.specs.Forward.{forward}
use Rattle.heyvl_acts.specs.Rules.{MeetsRules}
use Rattle.heyvl_acts.specs.Upward.{upward}
use Rattle.heyvl_acts.specs.WellTypedActs.{ActsFit}
use Rattle.ranking_rule.specs.Laws.{IsFew}
use Rattle.made_goals.specs.MadeGoals.{all_names}
use Rattle.ranking_rule.specs.RankingGoals.{generated}
use Rattle.region_split.specs.Meanings.{Fails}
use Rattle.vp_generator.specs.Laws.{GeneratedFormIsFormula, GeneratedFormMeansActs}
use Rattle.vp_generator.specs.Limits.{IsSmall}
use Rattle.vp_generator.specs.Over.{GeneratedFormIsOver}
use Rattle.vp_generator.specs.PrenexedForms.{new_types}
use Rattle.vp_generator.specs.PrenexedGoals.{PrenexedGoalsAreGoals, PrenexedGoalsFailByChoices, PrenexedGoalsSpeakOfChoices}
use Rattle.lower_goals.specs.StartGoals.{StartFails, StartHolds, start_goal}
use Rattle.lower_goals.proofs.exported.StartParts.{IsStart, bound_formula, bound_over}
use Rattle.made_goals.proofs.exported.MadeGoals.{all_names_length, new_types_length}
use Rattle.ranking_rule.proofs.exported.PrenexedSizes.{nodes_unbound}
use Rattle.ranking_rule.proofs.exported.UpwardActs.{upward_fit, upward_over}

module _ (ps : List TypedProcedure) (p q : TypedProcedure) (front : Acts) (r : Rational × Form) (start : IsStart ps p q front r) where
  abbrev own : ℕ
  own = length (variables p)

  acts_fit : ActsFit (types_of p) (upward front)
  acts_fit = upward_fit ps p front start.turns

  as_many : length (type_list (variables p)) ≡ own
  as_many = length-map (variables p) (λ (v : Variable). v.ty)

  found_over : GeneratedFormIsOver → IsOver (length (type_list (variables p))) (generated front r)
  found_over law = subst (λ n. IsOver n (generated front r)) (sym as_many) (law own (upward front) r.1 (upward_over own front start.reads) start.over)

  found_formula : GeneratedFormIsFormula → IsFormula (types_in (type_list (variables p))) (generated front r)
  found_formula law = law (types_of p) (upward front) r.1 acts_fit start.fits.1.0

  found_value : GeneratedFormMeansActs → (s : Env) (c : Choices) → value (generated front r) s c ≡ forward (upward front) (value r.1) s c
  found_value law s c = law (types_of p) (upward front) r.1 s c acts_fit

  module _ (rules : MeetsRules ps q) where
    pub start_holds : GeneratedFormMeansActs → GeneratedFormIsOver → PrenexedGoalsSpeakOfChoices → Holds (start_goal p front r q.pre) → StartHolds p front r q.pre
    start_holds means over speak h s c st =
        let k = speak true (type_list (variables p)) (all_names (variables p) (generated front r)) q.pre (generated front r) (bound_over ps p q start.bound rules) (found_over over) in
        subst (λ v. v ≤ᵛ value q.pre (environment s) Choices.stop) (found_value means (environment s) c) (k.1 h s c st)

    pub start_fails : GeneratedFormMeansActs → GeneratedFormIsOver → PrenexedGoalsFailByChoices → (s : List Val) → Fails (start_goal p front r q.pre) s → StartFails p front r q.pre (take own s)
    start_fails means over failing s f =
        let tys = type_list (variables p) in
        let t = take (length tys) s in
        let k = failing true tys (all_names (variables p) (generated front r)) q.pre (generated front r) (bound_over ps p q start.bound rules) (found_over over) s f.typed f.fails in
        subst (λ n. StartFails p front r q.pre (take n s)) as_many (record {
          choices = k.choices;
          state = k.state;
          fails = λ h. k.fails (subst (λ v. v ≤ᵛ value q.pre (environment t) Choices.stop) (sym (found_value means (environment t) k.choices)) h);
        })

    pub start_is_goal : GeneratedFormIsFormula → GeneratedFormIsOver → PrenexedGoalsAreGoals → IsGoal (start_goal p front r q.pre)
    start_is_goal formula over are = are true (type_list (variables p)) (all_names (variables p) (generated front r)) q.pre (generated front r) (bound_formula ps p q start.bound rules) (found_formula formula) (bound_over ps p q start.bound rules) (found_over over) rules.pre.1 (all_names_length (variables p) (generated front r))

  pub start_is_few : MeetsRules ps p → FormsWithin (2 ^ 27) q → IsSmall (generated front r) → IsFew (start_goal p front r q.pre)
  start_is_few rules within small =
      let w = within.pre in
      let v = small.few in
      let m = nodes_unbound (λ x. x) (length (type_list (variables p))) (generated front r) in
      let t = length-append (type_list (variables p)) (new_types (binders (generated front r))) in
      let d = new_types_length (binders (generated front r)) in
      let e = as_many in
      let n = rules.few_variables in
      record {
        stated = omega (arith, w);
        found = omega (arith, m, v);
        variables = omega (arith, t, d, m, v, e, n);
      }
