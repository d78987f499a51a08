-- Integers as fractions, and the floor and the ceiling of a fraction.
use Rattle.std.specs.Prelude.{ℤ, pos, ◌≤ℤ◌, neg_ℤ}
use Rattle.std.specs.Int.{int_div_euclid}
use Rattle.heyvl_num.specs.Rational.{Rational, ratio, ◌≤ʳ◌}

-- The integer `n` as a fraction.
unfoldable pub whole : ℤ → Rational
whole n = ratio n 1

-- The largest integer that is at most `x`. The floor of -7/2 is -4.
unfoldable pub floorʳ : Rational → ℤ
floorʳ x = int_div_euclid x.num (pos x.den)

-- The least integer that is at least `x`. The ceiling of -7/2 is -3.
unfoldable pub ceilʳ : Rational → ℤ
ceilʳ x = neg_ℤ (int_div_euclid (neg_ℤ x.num) (pos x.den))

-- `n` is the largest integer that is at most the fraction `x`.
pub record IsFloor (x : Rational) (n : ℤ) : Type 0 where
  pub at_most : whole n ≤ʳ x
  pub greatest : (m : ℤ) → whole m ≤ʳ x → m ≤ℤ n

-- `n` is the least integer that is at least the fraction `x`.
pub record IsCeiling (x : Rational) (n : ℤ) : Type 0 where
  pub at_least : x ≤ʳ whole n
  pub least : (m : ℤ) → x ≤ʳ whole m → n ≤ℤ m
