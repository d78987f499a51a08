-- Solutions of rows: which fractions satisfy a row, and which rows are solvable. Types of variables
-- are not taken into account. Source: linear arithmetic over the rationals.
use Rattle.std.specs.Prelude.{ℕ, List, [], ◌∷◌, ℤ, Bool, true, false}
use Rattle.std.specs.List.{All}
use Rattle.heyvl_num.specs.Rational.{Rational, zeroʳ, ◌+ʳ◌, ◌*ʳ◌, ◌≤ʳ◌, ◌<ʳ◌}
use Rattle.heyvl_num.specs.Rounding.{whole}
use Rattle.linear_rows.specs.Row.{Row}

-- `sum_of f ts`: the value of the sum `ts` if variable `x` has the value `f x`.
unfoldable pub sum_of : (ℕ → Rational) → List (ℕ × ℤ) → Rational
sum_of f [] = zeroʳ
sum_of f (t ∷ ts) = (whole t.1 *ʳ f t.0) +ʳ sum_of f ts

-- `IsBelowZero strict x`: `x` is below 0 if `strict`, and at most 0 otherwise.
abbrev pub IsBelowZero : Bool → Rational → Type 0
IsBelowZero true x = x <ʳ zeroʳ
IsBelowZero false x = x ≤ʳ zeroʳ

-- `MeetsAt f r`: the values `f` satisfy the row `r`.
pub record MeetsAt (f : ℕ → Rational) (r : Row) : Type 0 where
  pub met : IsBelowZero r.strict (sum_of f r.terms +ʳ whole r.rest)

-- `IsSolvable rows`: some fractions for the variables satisfy all rows.
pub record IsSolvable (rows : List Row) : Type 0 where
  pub at_values : ℕ → Rational
  pub meets : All (MeetsAt at_values) rows
