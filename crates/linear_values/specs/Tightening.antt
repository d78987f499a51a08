-- Inequalities with fractions, and the integer rows to which they are tightened. This project's
-- own; the rounding of a constant over integer variables is that of Gomory (1958) and Chvátal
-- (1973).
--
-- Over integers, `2*x - 3 <= 0` is tightened to `x - 1 <= 0`, and `x < 0` to `x + 1 <= 0`.
use Rattle.std.specs.Prelude.{ℕ, ◌*◌, ◌/◌, List, [], ◌∷◌, map, ℤ, pos, negsuc, ◌+ℤ◌, unsigned_abs}
use Rattle.std.specs.Prelude.{Bool, true, false, ◌&&◌, Option, Some, None, if◌then◌else◌}
use Prim.Native.Nat.{zero, suc}
use Rattle.heyvl_num.specs.Gcd.{gcd}
use Rattle.heyvl_num.specs.Rational.{Rational, ratio, ◌*ʳ◌}
use Rattle.heyvl_num.specs.Rounding.{floorʳ, ceilʳ}
use Rattle.heyvl_num.specs.Exact.{product_fits}
use Rattle.heylo_formula.specs.Typing.{Types}
use Rattle.linear_rows.specs.TermResults.{are_narrow}
use Rattle.linear_rows.specs.Terms.{is_narrow}
use Rattle.linear_rows.specs.Row.{Row}
use Rattle.linear_values.specs.Lin.{Lin, Terms, is_sized}
use Rattle.linear_rows.specs.VariableTypes.{is_integral}

-- The claim that a linear value is at most 0 or, if `strict`, below 0.
pub record Claim : Type 0 where
  pub left : Lin
  pub strict : Bool

-- `common_multiple ts`: the least common multiple of the denominators of the coefficients.
unfoldable pub common_multiple : Terms → ℕ
common_multiple [] = 1
common_multiple (t ∷ ts) = t.1.den * common_multiple ts / gcd t.1.den (common_multiple ts)

-- `common_divisor m ts`: the greatest common divisor of the coefficients times `m`, a common
-- multiple of their denominators.
unfoldable pub common_divisor : ℕ → Terms → ℕ
common_divisor m [] = 0
common_divisor m (t ∷ ts) = gcd (unsigned_abs t.1.num * (m / t.1.den)) (common_divisor m ts)

-- `factor ts`: the positive number that makes the coefficients integers without a common divisor.
-- For `1/2*x + 1/3*y` it is 6, and for `4*x + 6*y` it is 1/2.
unfoldable pub factor : Terms → Rational
factor ts = ratio (pos (common_multiple ts)) (common_divisor (common_multiple ts) ts)

-- `whole_terms w ts`: the terms times `w`, which makes them integers.
abbrev pub whole_terms : Rational → Terms → List (ℕ × ℤ)
whole_terms w ts = map (λ t. (t.0, (w *ʳ t.1).num)) ts

-- `are_whole types ts`: all variables are of type `Int` or `UInt`.
abbrev pub are_whole : Types → Terms → Bool
are_whole types [] = true
are_whole types (t ∷ ts) = is_integral (types t.0) && are_whole types ts

-- `sign_of z`: the sign of `z`: -1, 0 or 1.
abbrev pub sign_of : ℤ → ℤ
sign_of (pos zero) = pos 0
sign_of (pos (suc n)) = pos 1
sign_of (negsuc n) = negsuc 0

-- `rounded strict c`: the constant of a row over integer variables: `c` rounded up or, if the claim
-- is strict, the next larger integer. The row is not strict.
abbrev pub rounded : Bool → Rational → ℤ
rounded false c = ceilʳ c
rounded true c = floorʳ c +ℤ pos 1

-- `tight_row types ts c strict`: the row of the claim with the terms `ts` and the constant `c`.
-- Without variables the constant is a sign. If not all variables have types of integers, the
-- whole row is scaled to integers, and its constant stays exact.
abbrev pub tight_row : Types → Terms → Rational → Bool → Row
tight_row types [] c strict = record { terms = []; rest = sign_of c.num; strict = strict }
tight_row types (t ∷ ts) c strict = if are_whole types (t ∷ ts)
    then (record {
      terms = whole_terms (factor (t ∷ ts)) (t ∷ ts);
      rest = rounded strict (factor (t ∷ ts) *ʳ c);
      strict = false;
    })
    else (record {
      terms = whole_terms (ratio (pos (factor (t ∷ ts) *ʳ c).den) 1 *ʳ factor (t ∷ ts))
          (t ∷ ts);
      rest = (factor (t ∷ ts) *ʳ c).num;
      strict = strict;
    })

-- `constant_fits ts c`: the product of the factor and the constant can be computed without
-- overflow. Without terms it is not needed.
abbrev pub constant_fits : Terms → Rational → Bool
constant_fits [] c = true
constant_fits (t ∷ ts) c = product_fits (factor (t ∷ ts)) c

-- `tightened types k`: the row of the claim `k`, or `None` if a number overflows: of the claim, in
-- the product for the constant, or of the row.
unfoldable pub tightened : Types → Claim → Option Row
tightened types k = (λ (r : Row). if is_sized k.left
    && (constant_fits k.left.terms k.left.rest && (are_narrow r.terms && is_narrow r.rest))
    then Some r else None) (tight_row types k.left.terms k.left.rest k.strict)

-- `with_row r rows`: the row `r` followed by `rows`, or `None` if one of them is missing.
abbrev pub with_row : Option Row → Option (List Row) → Option (List Row)
with_row (Some r) (Some rows) = Some (r ∷ rows)
with_row (Some r) None = None
with_row None rows = None

-- `all_tightened types ks`: the rows of all claims, in order, or `None` if a number of one of them
-- overflows.
abbrev pub all_tightened : Types → List Claim → Option (List Row)
all_tightened types [] = Some []
all_tightened types (k ∷ ks) = with_row (tightened types k) (all_tightened types ks)
