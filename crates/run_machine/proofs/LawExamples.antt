-- The requirements of the laws of steps and runs, at a fair coin.
use Rattle.std.proofs.Common.{◌≡◌, ◌∙◌, ap, refl, Bool, true, false, List, [], ◌∷◌, Some, arith}
use Rattle.heyvl_num.specs.Rational.{ratio, zeroʳ, oneʳ, halfʳ, leqʳ, ◌≤ʳ◌, ◌+ʳ◌}
use Rattle.heyvl_num.specs.Value.{Value, oneᵛ, zeroᵛ}
use Rattle.heyvl_num.proofs.exported.Rationals.{+ʳ-zero}
use Rattle.heyvl_num.proofs.exported.Signs.{halves}
use Rattle.heyvl_num.proofs.exported.WeightedSums.{total_weight-cons, total_weight-empty}
use Rattle.heyvl_places.specs.declared.spans.Span.{Span}
use Rattle.heylo_formula.specs.Formula.{Form, Cond, Term}
use Rattle.heylo_formula.specs.State.{has}
use Rattle.heylo_formula.specs.Typing.{types_in}
use Rattle.heylo_formula.specs.Variables.{IsOver}
use Rattle.heylo_formula.specs.declared.types.Ty.{Ty}
use Rattle.heylo_formula.specs.declared.values.Val.{Val}
use Rattle.heylo_formula.specs.declared.values.Val.TheVariants.{Num, Truth}
use Rattle.heyvl_acts.specs.Acts.{Act, Acts, TypedProcedure, nobody}
use Rattle.heyvl_acts.specs.Rules.{Each, MeetsRules, WeighsOne}
use Rattle.heyvl_acts.specs.WellTypedActs.{IsHeld}
use Rattle.run_machine.specs.ConfigConditions.{IsConfig}
use Rattle.run_machine.specs.Configurations.{Config, Item}
use Rattle.run_machine.specs.RunLaws.{ItemWeighsOne}
use Rattle.run_machine.specs.StoredStep.{stored_begin}

abbrev place : Span
place = record { from = 0; to = 0 }

abbrev truth : Bool → Term
truth b = Term.truth (Cond.constant b)

abbrev flip : Act
flip = Act.draw 0 ((halfʳ, truth true) ∷ (halfʳ, truth false) ∷ []) place

-- A fair coin with the pre `pre`.
abbrev coin : Form → TypedProcedure
coin pre = record nobody { outputs = record { name = 1 ∷ []; ty = Ty.Bool } ∷ []; pre = pre; post = Form.iverson (Cond.flag 0); body = Some (Acts.next flip Acts.done) }

abbrev coins : Form → List TypedProcedure
coins pre = coin pre ∷ []

abbrev start : List Val
start = Truth false ∷ []

half_from_zero : zeroʳ ≤ʳ halfʳ
unfolding halfʳ zeroʳ ratio leqʳ
half_from_zero = record { holds = refl }

halves_weigh_one : WeighsOne flip
halves_weigh_one = total_weight-cons halfʳ (truth true) _ ∙ (ap (λ w. halfʳ +ʳ w) (total_weight-cons halfʳ (truth false) [] ∙ (ap (λ w. halfʳ +ʳ w) (total_weight-empty Term) ∙ +ʳ-zero halfʳ)) ∙ halves)

coin_meets : (pre : Form) → IsHeld (types_in []) pre → IsOver 0 pre → MeetsRules (coins pre) (coin pre)
coin_meets pre held over = record {
  few_parameters = omega arith;
  few_variables = omega arith;
  few_statements = omega arith;
  weak_is_proc = λ e. absurd (cc);
  pre = held;
  pre_over = over;
  post = refl;
  post_over = λ y e. grind arith;
  post_directed = refl;
  targets = (record { no_input = omega arith; below = omega arith }, tt);
  typed = (((half_from_zero, (refl, refl)), ((half_from_zero, (refl, refl)), tt)), tt);
  weights = (halves_weigh_one, tt);
  directions = (tt, tt);
  binders = ((λ e. absurd (cc)), tt);
  scopes = (((λ y e. absurd (cc)), ((λ y e. absurd (cc)), tt)), tt);
  loops = (tt, tt);
  numbered = refl;
}

number_is_over : (v : Value) → IsOver 0 (Form.number v)
number_is_over v y e = absurd (cc)

one_held : IsHeld (types_in []) (Form.number oneᵛ)
unfolding oneᵛ oneʳ zeroʳ ratio leqʳ
one_held = (refl, refl)

abbrev file : List TypedProcedure
file = coins (Form.number oneᵛ)

-- The weights of the draw have the sum 1, as `StepsWeighOne` requires.
flip_weighs_one : ItemWeighsOne (Item.act flip)
flip_weighs_one = halves_weigh_one

-- A number is no Boolean, as `IllTypedIsDefault` requires.
number_is_ill_typed : has Ty.Bool (Num halfʳ) ≡ false
number_is_ill_typed = refl

-- A terminated configuration.
abbrev over : Config
over = record { procedure = 0; items = []; frames = []; state = start; reward = zeroᵛ; turns = λ n. 0 }

-- It has no item, as `EndedStays` requires.
nothing_is_left : over.items ≡ []
nothing_is_left = refl

-- The file satisfies the static rules and the first configuration the condition, as
-- `StoredStepsAreMeant` requires.
coin_is_stored : Each (MeetsRules file) file × IsConfig file (stored_begin file 0 start)
coin_is_stored = ((coin_meets (Form.number oneᵛ) one_held (number_is_over oneᵛ), tt), record { running = 0; lists = (refl, (((refl, record { act = flip; named = refl; runs = (tt, tt) }), tt), (refl, refl))); turns = refl })
