-- The place 1 beyond an end.
use Rattle.std.proofs.Common.{◌≡◌, refl, ap, ◌∙◌, true}
use Rattle.std.specs.Prelude.{pos, negsuc}
use Rattle.heyvl_num.specs.Gcd.{gcd, gcd_steps}
use Rattle.heyvl_num.specs.Rational.{Rational, ratio, zeroʳ, negʳ, ◌+ʳ◌, ◌-ʳ◌}
use Rattle.heyvl_num.specs.Rounding.{whole}
use Rattle.linear_rows.specs.Numbers.{fits}
use Rattle.interval_choice.specs.Picks.{past_place}
use Rattle.interval_choice.specs.declared.sides.Side.{Side}
use Rattle.interval_choice.specs.declared.sides.Side.TheVariants.{Low, High}
use Rattle.interval_choice.proofs.Wholes.{whole-one, whole-negative}

pub one_fits : fits (whole (pos 1)) ≡ true
unfolding whole fits ratio gcd gcd_steps
one_fits = refl

pub minus_one_fits : fits (whole (negsuc 0)) ≡ true
unfolding whole fits ratio gcd gcd_steps
minus_one_fits = refl

pub past_low_is : (side : Side) (p : Rational) → side ≡ Low → p +ʳ whole (pos 1) ≡ past_place side p
past_low_is Low p s = ap (λ x. p +ʳ x) whole-one
past_low_is High p s = absurd (cc)

pub past_high_is : (side : Side) (p : Rational) → side ≡ High → p +ʳ whole (negsuc 0) ≡ past_place side p
unfolding ◌-ʳ◌
past_high_is High p s = ap (λ x. p +ʳ x) (whole-negative 0 ∙ ap negʳ whole-one)
past_high_is Low p s = absurd (cc)

pub zero_fits : fits zeroʳ ≡ true
unfolding zeroʳ fits ratio gcd gcd_steps
zero_fits = refl
