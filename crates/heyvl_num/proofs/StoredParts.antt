-- The integers that a fraction stores are its numerator and its denominator.
use Rattle.std.proofs.Common.{◌≡◌, ◌∙◌, sym, ap, unsigned_abs, pos, ℤ, ◌^◌, ◌<◌}
use Rattle.std.specs.Prelude.{◌<ℤ◌}
use Rattle.heyvl_num.specs.Gcd.{gcd}
use Rattle.heyvl_num.specs.Rational.{Rational, ratio}
use Rattle.heyvl_num.specs.RationalParts.{ratio_num-lowest, ratio_den-lowest, abs-pos, pos-abs}

pub num_is : (x : Rational) (a d : ℤ) → ratio a (unsigned_abs d) ≡ x → (pos 0 <ℤ d) × (unsigned_abs a < 2 ^ 127) × (gcd (unsigned_abs a) (unsigned_abs d) ≡ 1) → a ≡ x.num
num_is x a d e h = sym (ratio_num-lowest a (unsigned_abs d) (abs-pos d h.0) h.2) ∙ ap (λ (r : Rational). r.num) e

pub den_is : (x : Rational) (a d : ℤ) → ratio a (unsigned_abs d) ≡ x → (pos 0 <ℤ d) × (unsigned_abs a < 2 ^ 127) × (gcd (unsigned_abs a) (unsigned_abs d) ≡ 1) → d ≡ pos x.den
den_is x a d e h = sym (pos-abs d h.0) ∙ sym (ap pos (ratio_den-lowest a (unsigned_abs d) (abs-pos d h.0) h.2)) ∙ ap (λ (r : Rational). pos r.den) e
