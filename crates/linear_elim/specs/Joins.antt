-- Combinations of the first rows, with multipliers, and the combination of two rows in which a
-- variable vanishes. Source: Fourier (1826), Motzkin (1936).
use Rattle.std.specs.Prelude.{ℕ, ◌*◌, ◌/◌, List, ℤ, pos, negsuc, ◌+ℤ◌, ◌*ℤ◌, unsigned_abs, Bool}
use Rattle.std.specs.Prelude.{true, false, ◌||◌, ◌&&◌}
use Rattle.std.specs.Int.RustNames.{int_div}
use Prim.Native.Nat.{zero, suc}
use Rattle.linear_rows.specs.Terms.{coefficient, is_narrow, is_wide}
use Rattle.linear_rows.specs.TermResults.{mixed_terms, are_wide, are_narrow}
use Rattle.linear_rows.specs.Divisors.{divisor, divided_terms}
use Rattle.linear_rows.specs.Row.{Row}

-- A combination of the first rows: `row` times the denominator `over` is the sum of the first rows,
-- each times its multiplier in `shares`. Multipliers are pairs of an index and a number.
pub record Derived : Type 0 where
  pub row : Row
  pub shares : List (ℕ × ℤ)
  pub over : ℕ

-- `is_below_zero z`: the integer `z` is below 0.
abbrev pub is_below_zero : ℤ → Bool
is_below_zero (pos n) = false
is_below_zero (negsuc n) = true

-- `is_above_zero z`: the integer `z` is above 0.
abbrev pub is_above_zero : ℤ → Bool
is_above_zero (pos zero) = false
is_above_zero (pos (suc n)) = true
is_above_zero (negsuc n) = false

-- `row_divisor r`: the greatest common divisor of the constant and all coefficients of `r`, or 1 if
-- all of them are 0.
abbrev pub row_divisor : Row → ℕ
row_divisor r = divisor r.terms (unsigned_abs r.rest)

-- `lowest r`: the row `r` divided by the greatest common divisor of its numbers. For `4*x - 6 <= 0`
-- it is `2*x - 3 <= 0`.
unfoldable pub lowest : Row → Row
lowest r = record {
  terms = divided_terms (row_divisor r) r.terms;
  rest = int_div r.rest (pos (row_divisor r));
  strict = r.strict;
}

-- `size x r`: the absolute value of the coefficient of `x` in `r`.
abbrev pub size : ℕ → Derived → ℕ
size x r = unsigned_abs (coefficient x r.row.terms)

-- `mixed_row p r q s`: the row `p * r + q * s`.
unfoldable pub mixed_row : ℕ → Row → ℕ → Row → Row
mixed_row p r q s = record {
  terms = mixed_terms (pos p) r.terms (pos q) s.terms;
  rest = (pos p *ℤ r.rest) +ℤ (pos q *ℤ s.rest);
  strict = r.strict || s.strict;
}

-- `mixed_shares p ms q ns`: the multipliers `p * ms + q * ns`.
abbrev pub mixed_shares : ℕ → List (ℕ × ℤ) → ℕ → List (ℕ × ℤ) → List (ℕ × ℤ)
mixed_shares p ms q ns = mixed_terms (pos p) ms (pos q) ns

-- `joined_row x l u`: the row `l`, with a negative coefficient of `x`, times the coefficient of `x`
-- in `u`, plus the row `u`, with a positive one, times the absolute value of that in `l`. The rows
-- `-2*x + 3 <= 0` and `3*x + y <= 0` yield `2*y + 9 <= 0`.
abbrev pub joined_row : ℕ → Derived → Derived → Row
joined_row x l u = mixed_row (size x u) l.row (size x l) u.row

-- `joined_shares x l u`: the multipliers of the combined row times the denominators of `l` and `u`.
abbrev pub joined_shares : ℕ → Derived → Derived → List (ℕ × ℤ)
joined_shares x l u = mixed_shares (size x u * u.over) l.shares (size x l * l.over) u.shares

-- `joined_over x l u`: the denominator of the combined row in lowest terms, for the multipliers
-- `joined_shares x l u`.
abbrev pub joined_over : ℕ → Derived → Derived → ℕ
joined_over x l u = l.over * u.over * row_divisor (joined_row x l u)

-- `share_divisor x l u`: the greatest common divisor of the multipliers `joined_shares x l u` and
-- the denominator `joined_over x l u`, or 1 if all of them are 0.
abbrev pub share_divisor : ℕ → Derived → Derived → ℕ
share_divisor x l u = divisor (joined_shares x l u) (joined_over x l u)

-- `join x l u`: the combination of `l` and `u` in which `x` vanishes, in lowest terms.
unfoldable pub join : ℕ → Derived → Derived → Derived
join x l u = record {
  row = lowest (joined_row x l u);
  shares = divided_terms (share_divisor x l u) (joined_shares x l u);
  over = joined_over x l u / share_divisor x l u;
}

-- `row_fits r`: each number of the row `r` is below 2^62 in absolute value.
abbrev pub row_fits : Row → Bool
row_fits r = are_narrow r.terms && is_narrow r.rest

-- `derived_fits r`: each number of the row, each multiplier and the denominator of `r` are below
-- 2^62 in absolute value.
abbrev pub derived_fits : Derived → Bool
derived_fits r = row_fits r.row && are_narrow r.shares && is_narrow (pos r.over)

-- `join_fits x l u`: no intermediate product for the multipliers of `join x l u` reaches 2^126, and
-- no number of it reaches 2^62.
abbrev pub join_fits : ℕ → Derived → Derived → Bool
join_fits x l u = are_wide (pos (size x u * u.over)) l.shares
    && are_wide (pos (size x l * l.over)) u.shares && is_wide (pos (joined_over x l u))
    && derived_fits (join x l u)
