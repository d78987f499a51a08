-- The goal of a ranking holds exactly if the formula is a ranking; it is a goal, with few nodes and
-- variables.
use Rattle.std.proofs.Common.{◌≡◌, ◌∙◌, ◌≤◌, ◌+◌, ◌^◌, ◌||◌, ℕ, refl, sym, ap, subst, arith, Bool, true, false, cond, List, length, take}
use Rattle.std.proofs.lemmas.List.{length-append, length-map}
use Rattle.std.specs.Prelude.{Option, Some, if◌then◌else◌, ◌==◌}
use Rattle.heyvl_num.specs.Rational.{Rational, zeroʳ, leqʳ, ◌≤ʳ◌}
use Rattle.heyvl_num.specs.Value.{zeroᵛ, ◌+ᵛ◌, ◌≤ᵛ◌}
use Rattle.heyvl_num.specs.Value.Value.{finite}
use Rattle.heyvl_num.proofs.exported.Rationals.{≤ʳ_refl}
use Rattle.heyvl_num.proofs.exported.Signs.{<ʳ-≤ʳ}
use Rattle.heylo_formula.specs.BinderNames.{Binder, binders}
use Rattle.heylo_formula.specs.Choices.{Choices, left, right}
use Rattle.heylo_formula.specs.Formula.{Form}
use Rattle.heylo_formula.specs.Meaning.{value, holds}
use Rattle.heylo_formula.specs.Sizes.{nodes}
use Rattle.heylo_formula.specs.State.{Env, environment}
use Rattle.heylo_formula.specs.Typing.{NumberType, type_of, constant_type, is_unsigned, is_well_typed, only_if, joined, types_in, IsFormula}
use Rattle.heylo_formula.specs.Variables.{is_free, is_free_in, IsOver}
use Rattle.heylo_formula.proofs.exported.Agreement.{unchosen_in}
use Rattle.heylo_formula.proofs.exported.Plain.{joins}
use Rattle.heyvl_acts.specs.Acts.{TypedProcedure, Variable, type_list, types_of, variables}
use Rattle.heyvl_acts.specs.FormSizes.{ActWithin, RankWithin}
use Rattle.heyvl_acts.specs.Rules.{MeetsRules}
use Rattle.vp_generator.specs.Laws.{GeneratedFormMeansActs, GeneratedFormIsFormula}
use Rattle.vp_generator.specs.Over.{GeneratedFormIsOver}
use Rattle.vp_generator.specs.PrenexedForms.{new_types}
use Rattle.vp_generator.specs.PrenexedGoals.{HoldsByChoices, PrenexedGoalsFailByChoices, PrenexedGoalsSpeakOfChoices, PrenexedGoalsAreGoals}
use Rattle.ranking_rule.specs.Laws.{RankingGoalsHold, RankingGoalsFail, RankingGoalsAreGoals, RankingGoalsAreFew}
use Rattle.made_goals.specs.MadeGoals.{all_names}
use Rattle.ranking_rule.specs.RankingGoals.{found, generated}
use Rattle.ranking_rule.specs.Rankings.{RankedLoop, IsRanking, IsNoRanking, after_turn}
use Rattle.heyvl_acts.specs.Upward.{upward}
use Rattle.ranking_rule.proofs.FoundForms.{found_binders}
use Rattle.made_goals.proofs.exported.MadeGoals.{all_names_length, new_types_length}
use Rattle.ranking_rule.proofs.MadeRankings.{guard_plain}
use Rattle.ranking_rule.proofs.PrenexedSizes.{nodes_unbound}
use Rattle.ranking_rule.proofs.RankedActs.{of_head}
use Rattle.ranking_rule.proofs.RankedBodies.{body_acts, loop_fits, rank_fits, upward_fit}
use Rattle.heyvl_acts.proofs.exported.UpwardMeaning.{behind}
use Rattle.ranking_rule.proofs.ReadVariables.{body_over, guard_over, ranking_over}

-- ---- The type of the computed form

constant_unsigned : (x : Rational) → zeroʳ ≤ʳ x → is_unsigned (constant_type (finite x)) ≡ true
constant_unsigned x h = go (leqʳ zeroʳ x) (x.den == 1) h.holds
  where
    go : (a b : Bool) → a ≡ true → is_unsigned (cond a (Some (cond b NumberType.uint NumberType.ureal)) (only_if b (Some NumberType.int))) ≡ true
    go true true e = refl
    go true false e = refl
    go false b e = absurd (cc)

zero_unsigned : is_unsigned (constant_type zeroᵛ) ≡ true
unfolding zeroᵛ
zero_unsigned = constant_unsigned zeroʳ (≤ʳ_refl zeroʳ)

guarded : (b : Bool) (t : Option NumberType) → b ≡ true → is_unsigned t ≡ true → is_unsigned (only_if b t) ≡ true
guarded true t e h = h
guarded false t e h = absurd (cc)

either_three : (a b : Bool) {P : Type 0} → (a || ((false || b) || false)) ≡ true → (a ≡ true → P) → (b ≡ true → P) → P
either_three true b e f g = f refl
either_three false true e f g = g refl
either_three false false e f g = absurd (cc)

module _ (ps : List TypedProcedure) (p : TypedProcedure) (n : ℕ) (l : RankedLoop p n) (rules : MeetsRules ps p) where
  as_many : length (type_list (variables p)) ≡ length (variables p)
  as_many = length-map (variables p) (λ (v : Variable). v.ty)

  stated_over : IsOver (length (type_list (variables p))) l.rank.1
  stated_over = subst (λ m. IsOver m l.rank.1) (sym as_many) (ranking_over ps p n l rules)

  found_over : GeneratedFormIsOver → IsOver (length (type_list (variables p))) (found l.head l.body l.rank)
  found_over law = subst (λ m. IsOver m (found l.head l.body l.rank)) (sym as_many) (λ x e. either_three (is_free_in x l.head.guard) (is_free x (generated l.body l.rank)) e (guard_over ps p n l rules x) (law (length (variables p)) (upward l.body) l.rank.1 (body_over ps p n l rules) (ranking_over ps p n l rules) x))

  found_value : GeneratedFormMeansActs → (s : Env) (c : Choices) → value (found l.head l.body l.rank) s c ≡ after_turn l.head l.body l.rank s (right (right c))
  found_value law s c = ap (λ t. if t then finite l.rank.0 +ᵛ value (generated l.body l.rank) s (right (right c)) else zeroᵛ) (unchosen_in l.head.guard s (left c) (guard_plain ps p n l rules)) ∙ ap (λ v. if holds l.head.guard s Choices.stop then finite l.rank.0 +ᵛ v else zeroᵛ) (law (types_of p) (upward l.body) l.rank.1 s (right (right c)) (upward_fit ps p l.body (body_acts ps p n l rules)))

  by_choices : GeneratedFormMeansActs → IsRanking p l.head l.body l.rank → HoldsByChoices true (type_list (variables p)) l.rank.1 (found l.head l.body l.rank)
  by_choices law h s c st = subst (λ v. v ≤ᵛ value l.rank.1 (environment s) Choices.stop) (sym (found_value law (environment s) c)) (h s (right (right c)) st)

  from_choices : GeneratedFormMeansActs → HoldsByChoices true (type_list (variables p)) l.rank.1 (found l.head l.body l.rank) → IsRanking p l.head l.body l.rank
  from_choices law h s c st = subst (λ v. v ≤ᵛ value l.rank.1 (environment s) Choices.stop) (found_value law (environment s) (behind (behind c))) (h s (behind (behind c)) st)

  found_formula : GeneratedFormIsFormula → IsFormula (types_in (type_list (variables p))) (found l.head l.body l.rank)
  found_formula law = guarded (is_well_typed (types_of p) l.head.guard) (joined (joined (constant_type (finite l.rank.0)) (type_of (types_of p) (generated l.body l.rank))) (constant_type zeroᵛ)) (loop_fits ps p n l rules).guard (joins (joined (constant_type (finite l.rank.0)) (type_of (types_of p) (generated l.body l.rank))) (constant_type zeroᵛ) (joins (constant_type (finite l.rank.0)) (type_of (types_of p) (generated l.body l.rank)) (constant_unsigned l.rank.0 (<ʳ-≤ʳ zeroʳ l.rank.0 (rank_fits ps p n l rules).0)) (law (types_of p) (upward l.body) l.rank.1 (upward_fit ps p l.body (body_acts ps p n l rules)) (rank_fits ps p n l rules).1.0)) zero_unsigned)

pub goals_hold : GeneratedFormMeansActs → GeneratedFormIsOver → PrenexedGoalsSpeakOfChoices → RankingGoalsHold
goals_hold means over speak ps p n l rules =
    let k = speak true (type_list (variables p)) (all_names (variables p) (found l.head l.body l.rank)) l.rank.1 (found l.head l.body l.rank) (stated_over ps p n l rules) (found_over ps p n l rules over) in
    ((λ h. k.0 (by_choices ps p n l rules means h)), (λ h. from_choices ps p n l rules means (k.1 h)))

pub goals_fail : GeneratedFormMeansActs → GeneratedFormIsOver → PrenexedGoalsFailByChoices → RankingGoalsFail
goals_fail means over failing ps p n l rules s typed fails =
    let tys = type_list (variables p) in
    let t = take (length tys) s in
    let k = failing true tys (all_names (variables p) (found l.head l.body l.rank)) l.rank.1 (found l.head l.body l.rank) (stated_over ps p n l rules) (found_over ps p n l rules over) s typed fails in
    subst (λ m. IsNoRanking p l.head l.body l.rank (take m s)) (as_many ps p n l rules) (record {
      choices = right (right k.choices);
      state = k.state;
      fails = λ h. k.fails (subst (λ v. v ≤ᵛ value l.rank.1 (environment t) Choices.stop) (sym (found_value ps p n l rules means (environment t) k.choices)) h);
    })

pub goals_are_goals : GeneratedFormIsFormula → GeneratedFormIsOver → PrenexedGoalsAreGoals → RankingGoalsAreGoals
goals_are_goals formula over are ps p n l rules = are true (type_list (variables p)) (all_names (variables p) (found l.head l.body l.rank)) l.rank.1 (found l.head l.body l.rank) (rank_fits ps p n l rules).1.0 (found_formula ps p n l rules formula) (stated_over ps p n l rules) (found_over ps p n l rules over) (rank_fits ps p n l rules).1.1 (all_names_length (variables p) (found l.head l.body l.rank))

-- ---- Sizes

rank_within : (most : ℕ) (o : Option (Rational × Form)) (r : Rational × Form) → o ≡ Some r → RankWithin most o → nodes r.1 ≤ most
rank_within most o r e h = subst (RankWithin most) e h

pub goals_are_few : RankingGoalsAreFew
goals_are_few ps p n l rules within small =
    let w = of_head (ActWithin (2 ^ 27)) p n l within.acts in
    let g = w.1.0 in
    let r = rank_within (2 ^ 27) l.head.rank l.rank l.ranked w.1.1 in
    let v = small.few in
    let u = nodes_unbound (λ x. x) (length (type_list (variables p))) (generated l.body l.rank) in
    let m = nodes_unbound (λ x. x) (length (type_list (variables p))) (found l.head l.body l.rank) in
    let b = ap (λ (bs : List Binder). length bs) (found_binders l.head l.body l.rank (guard_plain ps p n l rules)) in
    let t = length-append (type_list (variables p)) (new_types (binders (found l.head l.body l.rank))) in
    let d = new_types_length (binders (found l.head l.body l.rank)) in
    let e = as_many ps p n l rules in
    let q = rules.few_variables in
    record {
      stated = omega (arith, r);
      found = omega (arith, m, g, v);
      variables = omega (arith, t, d, b, u, v, e, q);
    }
