-- Limits of numbers, and their signs.
use Rattle.std.specs.Prelude.{◌&&◌, pos, negsuc, Bool, true, false, not}
use Rattle.heyvl_num.specs.Rational.{Rational, ratio, zeroʳ, leqʳ}
use Rattle.linear_rows.specs.Terms.{is_narrow}

-- The fraction -1.
unfoldable pub minus_oneʳ : Rational
minus_oneʳ = ratio (negsuc 0) 1

-- `fits x`: the numerator and the denominator of `x` in lowest terms are below 2^62 in absolute
-- value.
unfoldable pub fits : Rational → Bool
fits x = is_narrow x.num && is_narrow (pos x.den)

-- `is_negative x strict`: `x` is at most 0 or, if `strict`, below 0.
abbrev pub is_negative : Rational → Bool → Bool
is_negative x false = leqʳ x zeroʳ
is_negative x true = not (leqʳ zeroʳ x)
