-- Rows: linear inequalities with integer coefficients. Source: linear arithmetic; the limits of
-- numbers are this project's own.
use Rattle.std.specs.Prelude.{ℕ, ◌<◌, ◌^◌, List, ℤ, unsigned_abs, Bool}
use Rattle.std.specs.List.{All}
use Rattle.linear_rows.specs.Terms.{IsNormal}

-- A row: the inequality `terms + rest <= 0`, or `terms + rest < 0` if `strict` is true. The row `x0
-- - 2*x3 + 5 < 0` has the terms `(0, 1)` and `(3, -2)`, the rest 5, and is strict.
pub record Row : Type 0 where
  pub terms : List (ℕ × ℤ)
  pub rest : ℤ
  pub strict : Bool

-- `IsRow r`: the variables of the terms increase, no coefficient is 0, and each number is below
-- 2^62 in absolute value.
pub record IsRow (r : Row) : Type 0 where
  pub normal : IsNormal r.terms
  pub narrow : All (λ t. unsigned_abs t.1 < 2 ^ 62) r.terms
  pub rest_narrow : unsigned_abs r.rest < 2 ^ 62
