-- The numbers of rows in a column, and the lists that are multipliers of rows.
use Rattle.std.specs.Prelude.{ℕ, ◌≡◌, ◌⊎◌, ◌<◌, ◌^◌, List, ℤ, pos, ◌<ℤ◌, true}
use Rattle.std.specs.List.{All}
use Rattle.linear_rows.specs.Terms.{coefficient}
use Rattle.linear_rows.specs.Row.{Row}
use Rattle.goal_answers.specs.Multipliers.{IsGrowing}
use Rattle.linear_rows.specs.Combination.{IsWideThroughout, combined, row_at, uses_strict}
use Rattle.linear_rows.specs.declared.multipliers.Column.{Column}
use Rattle.linear_rows.specs.declared.multipliers.Column.TheVariants.{Constant, Coefficient}

-- `number_in column r`: the number of the row `r` in `column`.
abbrev pub number_in : Column → Row → ℤ
number_in Constant r = r.rest
number_in (Coefficient x) r = coefficient x r.terms

-- `AreMultipliers count ms`: the indexes in `ms` increase and are below `count`, and each
-- multiplier is from 1 to 2^62 - 1.
pub record AreMultipliers (count : ℕ) (ms : List (ℕ × ℕ)) : Type 0 where
  pub growing : IsGrowing ms
  pub within : All (λ m. m.0 < count) ms
  pub positive : All (λ m. 0 < m.1) ms
  pub narrow : All (λ m. m.1 < 2 ^ 62) ms

-- `IsBeyondAt bound rows m`: each variable of the row that `m` multiplies is below `bound`.
pub record IsBeyondAt (bound : ℕ) (rows : List Row) (m : ℕ × ℕ) : Type 0 where
  pub below : All (λ t. t.0 < bound) (row_at rows m.0).terms

-- `Vanishes x ms rows`: the coefficients of `x`, times the multipliers, add up to 0, and no partial
-- sum overflows 126 bits.
pub record Vanishes (x : ℕ) (ms : List (ℕ × ℕ)) (rows : List Row) : Type 0 where
  pub wide : IsWideThroughout (number_in (Coefficient x)) ms rows
  pub zero : combined (number_in (Coefficient x)) ms rows ≡ pos 0

-- `IsUnmet ms rows`: the constants, times the multipliers, add up to a number above 0, or to 0
-- while a strict row has a multiplier, and no partial sum overflows 126 bits.
pub record IsUnmet (ms : List (ℕ × ℕ)) (rows : List Row) : Type 0 where
  pub wide : IsWideThroughout (number_in Constant) ms rows
  pub false_constant : (pos 0 <ℤ combined (number_in Constant) ms rows)
      ⊎ ((combined (number_in Constant) ms rows ≡ pos 0) × (uses_strict ms rows ≡ true))
