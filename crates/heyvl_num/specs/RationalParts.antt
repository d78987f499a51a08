-- The numerator and the denominator of a ratio whose arguments are in lowest terms.
use Rattle.std.specs.Prelude.{◌≡◌, ℕ, ◌/◌, ◌<◌, ℤ, pos, negsuc, ◌<ℤ◌}
use Rattle.std.specs.Int.RustNames.{int_div, unsigned_abs}
use Rattle.std.proofs.Common.{refl, ap, ◌∙◌, arith}
use Rattle.std.proofs.Math.IntN.{neg_ℤ}
use Rattle.std.proofs.Math.Nat.{div-one}
use borrow.Author.Differences.{ints}
use Prim.Native.Nat.{suc, zero}
use Rattle.heyvl_num.specs.Gcd.{gcd}
use Rattle.heyvl_num.specs.Rational.{ratio}

div_one : (a : ℤ) → int_div a (pos 1) ≡ a
div_one (pos n) = ap pos (div-one n)
div_one (negsuc n) = ap (λ n. neg_ℤ (pos n)) (div-one (suc n))

-- If `a` and `b` have no common divisor but 1, the numerator of `ratio a b` is `a`.
pub ratio_num-lowest : (a : ℤ) (b : ℕ) → 0 < b → gcd (unsigned_abs a) b ≡ 1 → (ratio a b).num ≡ a
unfolding ratio
ratio_num-lowest a zero p e = absurd (omega arith)
ratio_num-lowest a (suc b) p e = ap (λ n. int_div a (pos n)) e ∙ div_one a

-- If `a` and `b` have no common divisor but 1, the denominator of `ratio a b` is `b`.
pub ratio_den-lowest : (a : ℤ) (b : ℕ) → 0 < b → gcd (unsigned_abs a) b ≡ 1 → (ratio a b).den ≡ b
unfolding ratio
ratio_den-lowest a zero p e = absurd (omega arith)
ratio_den-lowest a (suc b) p e = ap (λ n. suc b / n) e ∙ div-one (suc b)

-- The absolute value of a positive integer is positive.
pub abs-pos : (b : ℤ) → pos 0 <ℤ b → 0 < unsigned_abs b
abs-pos b h = omega (arith, ints)

-- A positive integer is equal to its absolute value.
pub pos-abs : (b : ℤ) → pos 0 <ℤ b → pos (unsigned_abs b) ≡ b
pos-abs (pos b) h = refl
pos-abs (negsuc b) h = absurd (omega (arith, ints))
