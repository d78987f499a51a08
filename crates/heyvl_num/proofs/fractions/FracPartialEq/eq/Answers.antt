use Rattle.std.proofs.Common.{◌≡◌, ◌∙◌, ap₂, int_eq, ◌&&◌, unsigned_abs, pos, ℤ, Bool, ◌^◌, ◌<◌}
use Rattle.std.specs.Prelude.{◌<ℤ◌}
use Rattle.heyvl_num.specs.Gcd.{gcd}
use Rattle.heyvl_num.specs.Rational.{Rational, ratio}
use Rattle.heyvl_num.proofs.StoredParts.{num_is, den_is}
use Rattle.heyvl_num.proofs.fractions.FracPartialEq.eq.Goals as goal

-- The integers that are compared are the parts of the two fractions.
compared : (x y : Rational) (a b d e : ℤ) (p q : Bool) → q ≡ (p && int_eq d e) → p ≡ int_eq a b → ratio a (unsigned_abs d) ≡ x → ratio b (unsigned_abs e) ≡ y → (pos 0 <ℤ d) × (unsigned_abs a < 2 ^ 127) × (gcd (unsigned_abs a) (unsigned_abs d) ≡ 1) → (pos 0 <ℤ e) × (unsigned_abs b < 2 ^ 127) × (gcd (unsigned_abs b) (unsigned_abs e) ≡ 1) → q ≡ (int_eq x.num y.num && int_eq (pos x.den) (pos y.den))
compared x y a b d e p q f g u v h k = f ∙ ap₂ (λ (a b : Bool). a && b) (g ∙ ap₂ int_eq (num_is x a d u h) (num_is y b e v k)) (ap₂ int_eq (den_is x a d u h) (den_is y b e v k))

pub returns : goal.returns
returns c = search compared
