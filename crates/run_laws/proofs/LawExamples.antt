-- The requirements of the laws of runs, at a fair coin: a file that satisfies the static rules,
-- configurations, a bound, and a violation.
use Rattle.std.proofs.Common.{◌≡◌, ◌∙◌, ap, refl, Bool, true, false, List, [], ◌∷◌, Some, arith}
use Rattle.heyvl_num.specs.Gcd.{gcd, gcd_steps}
use Rattle.heyvl_num.specs.Rational.{ratio, zeroʳ, oneʳ, halfʳ, leqʳ, ◌≤ʳ◌, ◌+ʳ◌, ◌*ʳ◌}
use Rattle.heyvl_num.specs.Value.{Value, zeroᵛ, oneᵛ, ◌+ᵛ◌, ◌*ᵛ◌, leqᵛ, ◌≤ᵛ◌, ◌<ᵛ◌}
use Rattle.heyvl_num.specs.Value.Value.{finite, infinite}
use Rattle.heyvl_num.specs.WeightedSums.{scaled, weighted_sum}
use Rattle.heyvl_num.proofs.exported.Rationals.{+ʳ-zero}
use Rattle.heyvl_num.proofs.exported.Signs.{halves}
use Rattle.heyvl_num.proofs.exported.WeightedSums.{total_weight-cons, total_weight-empty}
use Rattle.heyvl_places.specs.declared.spans.Span.{Span}
use Rattle.heylo_formula.specs.Choices.{Choices}
use Rattle.heylo_formula.specs.Formula.{Form, Cond, Term}
use Rattle.heylo_formula.specs.Meaning.{value}
use Rattle.heylo_formula.specs.State.{environment}
use Rattle.heylo_formula.specs.Typing.{types_in}
use Rattle.heylo_formula.specs.Variables.{IsOver}
use Rattle.heylo_formula.specs.declared.types.Ty.{Ty}
use Rattle.heylo_formula.specs.declared.values.Val.{Val}
use Rattle.heylo_formula.specs.declared.values.Val.TheVariants.{Truth}
use Rattle.heyvl_acts.specs.Acts.{Act, Acts, TypedProcedure, nobody}
use Rattle.heyvl_acts.specs.Rules.{Each, MeetsRules, WeighsOne}
use Rattle.heyvl_acts.specs.WellTypedActs.{IsHeld}
use Rattle.run_laws.specs.Bare.{bare_procedures}
use Rattle.run_laws.specs.RuledConfigurations.{ConfigFits}
use Rattle.run_machine.specs.Bound.{Bound, IsState}
use Rattle.run_machine.specs.Configurations.{begin}
use Rattle.run_machine.specs.Runs.{runs}
use Rattle.run_machine.specs.Scheduler.{Tree}
use Rattle.run_machine.specs.Sums.{sum_of}

abbrev place : Span
place = record { from = 0; to = 0 }

abbrev truth : Bool → Term
truth b = Term.truth (Cond.constant b)

abbrev flip : Act
flip = Act.draw 0 ((halfʳ, truth true) ∷ (halfʳ, truth false) ∷ []) place

-- A fair coin with the pre `pre`.
abbrev coin : Form → TypedProcedure
coin pre = record nobody { outputs = record { name = 1 ∷ []; ty = Ty.Bool } ∷ []; pre = pre; post = Form.iverson (Cond.flag 0); body = Some (Acts.next flip Acts.done) }

abbrev coins : Form → List TypedProcedure
coins pre = coin pre ∷ []

abbrev start : List Val
start = Truth false ∷ []

half_from_zero : zeroʳ ≤ʳ halfʳ
unfolding halfʳ zeroʳ ratio leqʳ
half_from_zero = record { holds = refl }

halves_weigh_one : WeighsOne flip
halves_weigh_one = total_weight-cons halfʳ (truth true) _ ∙ (ap (λ w. halfʳ +ʳ w) (total_weight-cons halfʳ (truth false) [] ∙ (ap (λ w. halfʳ +ʳ w) (total_weight-empty Term) ∙ +ʳ-zero halfʳ)) ∙ halves)

coin_meets : (pre : Form) → IsHeld (types_in []) pre → IsOver 0 pre → MeetsRules (coins pre) (coin pre)
coin_meets pre held over = record {
  few_parameters = omega arith;
  few_variables = omega arith;
  few_statements = omega arith;
  weak_is_proc = λ e. absurd (cc);
  pre = held;
  pre_over = over;
  post = refl;
  post_over = λ y e. grind arith;
  post_directed = refl;
  targets = (record { no_input = omega arith; below = omega arith }, tt);
  typed = (((half_from_zero, (refl, refl)), ((half_from_zero, (refl, refl)), tt)), tt);
  weights = (halves_weigh_one, tt);
  directions = (tt, tt);
  binders = ((λ e. absurd (cc)), tt);
  scopes = (((λ y e. absurd (cc)), ((λ y e. absurd (cc)), tt)), tt);
  loops = (tt, tt);
  numbered = refl;
}

number_is_over : (v : Value) → IsOver 0 (Form.number v)
number_is_over v y e = absurd (cc)

infinite_held : IsHeld (types_in []) (Form.number infinite)
infinite_held = (refl, refl)

abbrev unbounded : List TypedProcedure
unbounded = coins (Form.number infinite)

-- `BeginningsFit` and `SumsGrow` require a file that satisfies the static rules, and a state with
-- the right types.
file_meets_the_rules : Each (MeetsRules unbounded) unbounded × IsState (coin (Form.number infinite)) start
file_meets_the_rules = ((coin_meets (Form.number infinite) infinite_held (number_is_over infinite), tt), (refl, refl))

-- The first configuration satisfies the rules and has an item, as `StepsKeepTheRules` and
-- `RuledStepsWeighOne` require.
coin_fits : ConfigFits unbounded 0 (begin unbounded 0 start)
coin_fits = record { here = refl; frames = tt; items = (((((record { no_input = omega arith; below = omega arith }), ((half_from_zero, (refl, refl)), ((half_from_zero, (refl, refl)), tt))), halves_weigh_one), tt), tt); state = (refl, refl) }

at_most_infinity : (v : Value) → v ≤ᵛ infinite
unfolding leqᵛ
at_most_infinity (finite x) = record { holds = refl }
at_most_infinity infinite = record { holds = refl }

-- Infinity bounds the coin, in a file with the same rules, as `RulesDoNotRun` requires.
infinity_bounds : (bare_procedures unbounded ≡ bare_procedures unbounded) × Bound unbounded 0
infinity_bounds = (refl, λ s typed n t. at_most_infinity _)

-- After one step the sum of the coin is above a pre of 0, as `ViolationsRefute` requires.
coin_passes_zero : ((coin (Form.number zeroᵛ)).co ≡ true) × (IsState (coin (Form.number zeroᵛ)) start × (value (Form.number zeroᵛ) (environment start) Choices.stop <ᵛ sum_of true (Form.iverson (Cond.flag 0)) (runs (coins (Form.number zeroᵛ)) 1 (begin (coins (Form.number zeroᵛ)) 0 start) Tree.leaf)))
unfolding runs weighted_sum scaled halfʳ ratio gcd gcd_steps zeroʳ oneʳ zeroᵛ oneᵛ ◌+ʳ◌ ◌*ʳ◌ ◌+ᵛ◌ ◌*ᵛ◌ leqʳ leqᵛ
coin_passes_zero = (refl, ((refl, refl), record { holds = refl }))
