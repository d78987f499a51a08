-- Formulas, conditions and goals without an exact value, small ones with one, and instances of the
-- laws of numbers.
use Rattle.std.proofs.Common.{◌≡◌, ℕ, refl, true, [], ◌∷◌, None, pos}
use Rattle.heyvl_num.specs.Exact.{exact_order, exact_sum, order_fits, sum_fits}
use Rattle.heyvl_num.specs.Gcd.{gcd, gcd_steps}
use Rattle.heyvl_num.specs.Rational.{ratio, zeroʳ, oneʳ, halfʳ, leqʳ, compareʳ, ◌≤ʳ◌}
use Rattle.heyvl_num.specs.Value.{zeroᵛ, oneᵛ, leqᵛ, ◌≤ᵛ◌}
use Rattle.heyvl_num.specs.Value.Value.{finite}
use Rattle.heylo_formula.specs.Formula.{Form, Cond}
use Rattle.heylo_formula.specs.Goals.{Goal}
use Rattle.heylo_formula.specs.declared.types.Ty.{Ty}
use Rattle.quant_algebra.specs.ExactMeaning.{exact_goal, exact_truth, exact_value}

abbrev number : ℕ → Form
number n = Form.number (finite (ratio (pos n) 1))

-- The largest number of 127 bits, plus 1.
abbrev wide : Form
wide = Form.sum (number 170141183460469231731687303715884105727) (number 1)

-- The goal that this form is at most 1.
abbrev at_most_one : Form → Goal
at_most_one f = record { upper = true; stated = number 1; found = f; types = []; names = []; own = 0 }

-- A sum that overflows has no value.
wide_has_no_value : exact_value wide [] ≡ None
unfolding ratio gcd gcd_steps exact_sum sum_fits
wide_has_no_value = refl

-- The sum of 1 and 1 has a value.
small_has_a_value : exact_value (Form.sum (number 1) (number 1)) [] ≡ None → ⊥
unfolding ratio gcd gcd_steps exact_sum sum_fits
small_has_a_value e = cc

-- A comparison with a sum that overflows is not decided.
wide_is_not_compared : exact_truth (Cond.le wide (number 1)) [] ≡ None
unfolding ratio gcd gcd_steps exact_sum sum_fits
wide_is_not_compared = refl

-- A comparison of 1 with 1 is decided.
small_is_compared : exact_truth (Cond.le (number 1) (number 1)) [] ≡ None → ⊥
unfolding ratio gcd gcd_steps exact_order order_fits compareʳ leqʳ
small_is_compared e = cc

-- A goal whose computed form overflows is not decided.
wide_goal_is_open : exact_goal (at_most_one wide) [] ≡ None
unfolding ratio gcd gcd_steps exact_sum sum_fits
wide_goal_is_open = refl

-- A goal whose computed form is 1 is decided.
small_goal_is_not_open : exact_goal (at_most_one (number 1)) [] ≡ None → ⊥
unfolding ratio gcd gcd_steps exact_order order_fits compareʳ leqʳ
small_goal_is_not_open e = cc

-- A binder has no value.
binder_has_no_value : exact_value (Form.bind true 0 0 Ty.UInt (number 1)) [] ≡ None
binder_has_no_value = refl

-- A part that is not evaluated needs no value.
part_that_is_not_asked_for : exact_value (Form.select (Cond.constant true) (number 1) wide) [] ≡ None → ⊥
part_that_is_not_asked_for e = cc

-- ---- The premises of the laws

-- Weights are at least 0 and values grow, as `ThreeTermsMonotone` requires.
weights_and_values_grow : (zeroʳ ≤ʳ halfʳ) × (zeroᵛ ≤ᵛ oneᵛ)
unfolding zeroᵛ oneᵛ zeroʳ oneʳ halfʳ ratio leqᵛ leqʳ
weights_and_values_grow = (record { holds = refl }, record { holds = refl })
