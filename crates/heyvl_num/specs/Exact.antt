-- Exact arithmetic of fractions within 127 bits and a sign: the result, or `None` if an integer
-- that it is computed from overflows. This project's own.
--
-- The limit is on the products before they are reduced to lowest terms. For example, 2^100/3 times
-- 3^20/2^100 is `None`, though the product is 3^19: 2^100 * 3^20 is above 2^127.
use Rattle.std.specs.Prelude.{◌^◌, ℤ, pos, negsuc, ◌+ℤ◌, ◌-ℤ◌, ◌*ℤ◌, neg_ℤ, unsigned_abs, nat_lt}
use Rattle.std.specs.Prelude.{Bool, not, ◌&&◌, Option, Some, None, if◌then◌else◌}
use Rattle.std.specs.declared.cmp.Ordering.{Ordering}
use Prim.Native.Nat.{suc}
use Rattle.heyvl_num.specs.Value.{is_zero_num}
use Rattle.heyvl_num.specs.Rational.{Rational, ratio, ◌+ʳ◌, ◌*ʳ◌, ◌-ʳ◌, compareʳ}

-- `is_small z`: the absolute value of `z` is below 2^127. Each i128 is small, except -2^127.
abbrev pub is_small : ℤ → Bool
is_small z = nat_lt (unsigned_abs z) (2 ^ 127)

-- `quotient a b`: the fraction a/b of two integers; 0 if `b` is 0.
unfoldable pub quotient : ℤ → ℤ → Rational
quotient a (pos b) = ratio a b
quotient a (negsuc b) = ratio (neg_ℤ a) (suc b)

-- `quotient_fits num den`: `den` is not 0, and both integers are small.
unfoldable pub quotient_fits : ℤ → ℤ → Bool
quotient_fits num den = not (is_zero_num den) && is_small num && is_small den

-- The fraction num/den, or `None` if it does not fit.
unfoldable pub exact_quotient : ℤ → ℤ → Option Rational
exact_quotient num den = if quotient_fits num den then Some (quotient num den) else None

-- For `x` = a/b and `y` = c/d: a*d, c*b, b*d and a*d + c*b are small.
unfoldable pub sum_fits : Rational → Rational → Bool
sum_fits x y = is_small (x.num *ℤ pos y.den) && is_small (y.num *ℤ pos x.den)
    && is_small (pos x.den *ℤ pos y.den) && is_small (x.num *ℤ pos y.den +ℤ y.num *ℤ pos x.den)

-- The sum `x` + `y`, or `None` if it does not fit.
unfoldable pub exact_sum : Rational → Rational → Option Rational
exact_sum x y = if sum_fits x y then Some (x +ʳ y) else None

-- For `x` = a/b and `y` = c/d: a*d, c*b, b*d and a*d - c*b are small.
unfoldable pub difference_fits : Rational → Rational → Bool
difference_fits x y = is_small (x.num *ℤ pos y.den) && is_small (y.num *ℤ pos x.den)
    && is_small (pos x.den *ℤ pos y.den) && is_small (x.num *ℤ pos y.den -ℤ y.num *ℤ pos x.den)

-- The difference `x` - `y`, or `None` if it does not fit.
unfoldable pub exact_difference : Rational → Rational → Option Rational
exact_difference x y = if difference_fits x y then Some (x -ʳ y) else None

-- For `x` = a/b and `y` = c/d: a*c and b*d are small.
unfoldable pub product_fits : Rational → Rational → Bool
product_fits x y = is_small (x.num *ℤ y.num) && is_small (pos x.den *ℤ pos y.den)

-- The product `x` * `y`, or `None` if it does not fit.
unfoldable pub exact_product : Rational → Rational → Option Rational
exact_product x y = if product_fits x y then Some (x *ʳ y) else None

-- For `x` = a/b and `y` = c/d: a*d and c*b are small.
unfoldable pub order_fits : Rational → Rational → Bool
order_fits x y = is_small (x.num *ℤ pos y.den) && is_small (y.num *ℤ pos x.den)

-- How `x` compares with `y`, or `None` if the cross products do not fit.
unfoldable pub exact_order : Rational → Rational → Option Ordering
exact_order x y = if order_fits x y then Some (compareʳ x y) else None
