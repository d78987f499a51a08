-- The invariant of combinations in the program, and their relation to the first rows.
use Rattle.linear_elim.specs.Joins.{Derived, is_above_zero}
use Rattle.linear_rows.specs.Combination.{row_at}
use Rattle.linear_rows.specs.Divisors.{divisor, divided_terms}
use Rattle.linear_rows.specs.TermResults.{are_narrow}
use Rattle.linear_rows.specs.Row.{Row, IsRow}
use Rattle.linear_rows.specs.Terms.{sum_at, IsNormal, is_narrow}
use Rattle.std.specs.Int.RustNames.{int_div}
use Rattle.std.specs.List.{All}
use Rattle.std.specs.Prelude.{◌≡◌, ℕ, ◌<◌, ◌^◌, ◌/◌, List, [], ◌∷◌, length, ℤ, pos, ◌*ℤ◌, Bool}
use Rattle.std.specs.Prelude.{true, false, ◌||◌, ◌&&◌}

-- `any_at f ms`: `f` is true at an index of the multipliers `ms`.
unfoldable pub any_at : (ℕ → Bool) → List (ℕ × ℤ) → Bool
any_at f [] = false
any_at f (t ∷ ts) = f t.0 || any_at f ts

-- `Follows first r`: `r` is the combination of the rows `first` by its multipliers.
pub record Follows (first : List Row) (r : Derived) : Type 0 where
  pub positive : 0 < r.over
  pub shares_normal : IsNormal r.shares
  pub shares_positive : All (λ s. is_above_zero s.1 ≡ true) r.shares
  pub shares_within : All (λ s. s.0 < length first) r.shares
  pub sums : (f : ℕ → ℤ) → pos r.over *ℤ sum_at f r.row.terms
      ≡ sum_at (λ i. sum_at f (row_at first i).terms) r.shares
  pub rest : pos r.over *ℤ r.row.rest ≡ sum_at (λ i. (row_at first i).rest) r.shares
  pub strict : r.row.strict ≡ any_at (λ i. (row_at first i).strict) r.shares

-- `IsDerived r`: the invariant of combinations in the program.
pub record IsDerived (r : Derived) : Type 0 where
  pub is_row : IsRow r.row
  pub shares_normal : IsNormal r.shares
  pub over_positive : 0 < r.over
  pub over_narrow : r.over < 2 ^ 62

-- `derived_parts ts c s g ms o`: the combination with the given parts, divided to lowest terms.
abbrev pub derived_parts : List (ℕ × ℤ) → ℤ → Bool → ℕ → List (ℕ × ℤ) → ℕ → Derived
derived_parts ts c s g ms o =
    record {
      row = record { terms = divided_terms g ts; rest = int_div c (pos g); strict = s };
      shares = divided_terms (divisor ms o) ms;
      over = o / divisor ms o;
    }

abbrev pub parts_fit : Derived → Bool
parts_fit d = are_narrow d.row.terms && is_narrow d.row.rest && are_narrow d.shares
    && is_narrow (pos d.over)
