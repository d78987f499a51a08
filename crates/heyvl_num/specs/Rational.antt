-- Exact fractions of integers. They are kept in lowest terms, so that two fractions are equal if
-- and only if their cross products agree. Sums, products and the order are computed by cross
-- products.
use Rattle.std.specs.Prelude.{◌≡◌, ℕ, ◌*◌, ◌/◌, ◌<◌, ℤ, pos, negsuc, ◌+ℤ◌, ◌*ℤ◌, Bool, true, false}
use Rattle.std.specs.Int.RustNames.{int_div, unsigned_abs}
use Rattle.std.specs.Int.Signed.{le_z}
use Rattle.std.proofs.Math.IntN.{neg_ℤ}
use Rattle.std.specs.Ordering.{int_cmp}
use Rattle.std.specs.declared.cmp.Ordering.{Ordering}
use Prim.Native.Nat.{suc, zero}
use Rattle.std.proofs.Common.{refl, ◌∙◌, ap}
use Rattle.std.proofs.Math.Nat.{zero-lt-suc}
use Rattle.heyvl_num.specs.Gcd.{gcd, gcd_steps}
use Rattle.heyvl_num.specs.GcdLaws.{gcd-quotients, quotient_den-pos}

infix 4 ◌≤ʳ◌
infix 4 ◌<ʳ◌
infixl 6 ◌+ʳ◌
infixl 6 ◌-ʳ◌
infixl 7 ◌*ʳ◌
-- A fraction in lowest terms with a positive denominator.
pub record Rational : Type 0 where
  pub num : ℤ
  pub den : ℕ
  pub positive : 0 < den
  pub lowest : gcd (unsigned_abs num) den ≡ 1

abs_neg : (n : ℕ) → unsigned_abs (neg_ℤ (pos n)) ≡ n
abs_neg zero = refl
abs_neg (suc n) = refl

-- The absolute value of the quotient of `a` and `g` is the quotient of the absolute value of `a`
-- and `g`.
pub abs_div : (a : ℤ) (g : ℕ) → unsigned_abs (int_div a (pos g)) ≡ unsigned_abs a / g
abs_div (pos n) g = refl
abs_div (negsuc n) g = abs_neg (suc n / g)

-- The integer `a` and the positive number `d` + 1, each divided by their greatest common divisor,
-- have the greatest common divisor 1.
pub quotients_lowest : (a : ℤ) (d : ℕ)
    → gcd (unsigned_abs (int_div a (pos (gcd (unsigned_abs a) (suc d)))))
    (suc d / gcd (unsigned_abs a) (suc d)) ≡ 1
quotients_lowest a d = ap (λ x. gcd x (suc d / gcd (unsigned_abs a) (suc d)))
    (abs_div a (gcd (unsigned_abs a) (suc d))) ∙ gcd-quotients (unsigned_abs a) (suc d)
    (zero-lt-suc d)

-- `ratio a b`: the fraction a/b in lowest terms; 0 if `b` is 0. For example, the ratio of -6 and 4
-- is -3/2.
unfoldable pub ratio : ℤ → ℕ → Rational
unfolding gcd gcd_steps
ratio a zero = record { num = pos 0; den = 1; positive = zero-lt-suc 0; lowest = refl }
ratio a (suc d) = record {
  num = int_div a (pos (gcd (unsigned_abs a) (suc d)));
  den = suc d / gcd (unsigned_abs a) (suc d);
  positive = quotient_den-pos (unsigned_abs a) (suc d) (zero-lt-suc d);
  lowest = quotients_lowest a d;
}

-- The fraction 0.
unfoldable pub zeroʳ : Rational
zeroʳ = ratio (pos 0) 1

-- The fraction 1.
unfoldable pub oneʳ : Rational
oneʳ = ratio (pos 1) 1

-- a/b + c/d = (a*d + c*b) / (b*d)
unfoldable pub ◌+ʳ◌ : Rational → Rational → Rational
x +ʳ y = ratio (x.num *ℤ pos y.den +ℤ y.num *ℤ pos x.den) (x.den * y.den)

-- a/b * c/d = (a*c) / (b*d)
unfoldable pub ◌*ʳ◌ : Rational → Rational → Rational
x *ʳ y = ratio (x.num *ℤ y.num) (x.den * y.den)

-- -(a/b) = (-a)/b
unfoldable pub negʳ : Rational → Rational
negʳ x = ratio (neg_ℤ x.num) x.den

-- a/b - c/d = a/b + (-c)/d
unfoldable pub ◌-ʳ◌ : Rational → Rational → Rational
x -ʳ y = x +ʳ negʳ y

-- `leqʳ x y`: the test of `x` <= `y`. For `x` = a/b and `y` = c/d it tests a*d <= c*b.
unfoldable pub leqʳ : Rational → Rational → Bool
leqʳ x y = le_z (x.num *ℤ pos y.den) (y.num *ℤ pos x.den)

-- `x` is at most `y`.
pub record ◌≤ʳ◌ (x y : Rational) : Type 0 where
  pub holds : leqʳ x y ≡ true

-- `x` is less than `y`: `y` is not at most `x`.
pub record ◌<ʳ◌ (x y : Rational) : Type 0 where
  pub holds : leqʳ y x ≡ false

-- The fraction 1/2.
unfoldable pub halfʳ : Rational
halfʳ = ratio (pos 1) 2

-- The fraction halfway between `x` and `y`.
unfoldable pub middleʳ : Rational → Rational → Rational
middleʳ x y = halfʳ *ʳ (x +ʳ y)

-- `compareʳ x y`: how `x` compares with `y`. For `x` = a/b and `y` = c/d it compares a*d with c*b.
unfoldable pub compareʳ : Rational → Rational → Ordering
compareʳ x y = int_cmp (x.num *ℤ pos y.den) (y.num *ℤ pos x.den)
