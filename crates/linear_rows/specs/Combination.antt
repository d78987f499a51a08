-- Combinations of rows with multipliers, and contradictions. Source: Farkas (1902); which lists of
-- multipliers a certificate may contain is this project's own.
use Rattle.std.specs.Prelude.{◌≡◌, ◌⊎◌, ℕ, ◌<◌, ◌^◌, List, [], ◌∷◌, length, take, get_or}
use Rattle.std.specs.Prelude.{unsigned_abs, ℤ, pos, ◌+ℤ◌, ◌*ℤ◌, ◌<ℤ◌, Bool, true, false, ◌||◌}
use Rattle.std.specs.List.{All}
use Rattle.linear_rows.specs.Terms.{coefficient}
use Rattle.linear_rows.specs.Row.{Row}
use Rattle.goal_answers.specs.Multipliers.{IsGrowing}

-- `row_at rows i`: the row of `rows` at index `i`; beyond the list, the row `0 <= 0`.
abbrev pub row_at : List Row → ℕ → Row
row_at rows i = get_or rows i (record { terms = []; rest = pos 0; strict = false })

-- `combined F ms rows`: the sum of `F r` over the rows `r` that have a multiplier in `ms`, each
-- times its multiplier.
unfoldable pub combined : (Row → ℤ) → List (ℕ × ℕ) → List Row → ℤ
combined F [] rows = pos 0
combined F (m ∷ ms) rows = (pos m.1 *ℤ F (row_at rows m.0)) +ℤ combined F ms rows

-- `uses_strict ms rows`: a row that has a multiplier in `ms` is strict.
unfoldable pub uses_strict : List (ℕ × ℕ) → List Row → Bool
uses_strict [] rows = false
uses_strict (m ∷ ms) rows = (row_at rows m.0).strict || uses_strict ms rows

-- `IsWideThroughout F ms rows`: each partial sum of `combined F ms rows`, in the order of `ms`, is
-- below 2^126 in absolute value.
pub record IsWideThroughout (F : Row → ℤ) (ms : List (ℕ × ℕ)) (rows : List Row) : Type 0 where
  pub wide : (k : ℕ) → unsigned_abs (combined F (take k ms) rows) < 2 ^ 126

-- `IsContradiction ms rows`: the rows, each times its multiplier, add up to an inequality without
-- variables that is false. The constant is above 0, or it is 0 and a strict row has a multiplier.
-- The indexes increase, each multiplier is from 1 to 2^62 - 1, and no partial sum overflows 126
-- bits.
--
-- The rows `1 - x <= 0` and `x < 0`, each with multiplier 1, add up to `1 < 0`, a contradiction.
-- The inequality `0 <= 0` is none.
pub record IsContradiction (ms : List (ℕ × ℕ)) (rows : List Row) : Type 0 where
  pub growing : IsGrowing ms
  pub within : All (λ m. m.0 < length rows) ms
  pub positive : All (λ m. 0 < m.1) ms
  pub narrow : All (λ m. m.1 < 2 ^ 62) ms
  pub coefficients_wide : (x : ℕ) → IsWideThroughout (λ r. coefficient x r.terms) ms rows
  pub constants_wide : IsWideThroughout (λ r. r.rest) ms rows
  pub no_variable : (x : ℕ) → combined (λ r. coefficient x r.terms) ms rows ≡ pos 0
  pub false_constant : (pos 0 <ℤ combined (λ r. r.rest) ms rows)
      ⊎ ((combined (λ r. r.rest) ms rows ≡ pos 0) × (uses_strict ms rows ≡ true))
