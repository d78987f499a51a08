-- The first row in which each variable occurs. This project's own.
use Rattle.std.specs.Prelude.{◌≡◌, ℕ, ◌+◌, ◌<◌, List, [], ◌∷◌, length, get_or, Option, Some, None}
use Rattle.std.specs.Prelude.{if◌then◌else◌}
use Rattle.linear_rows.specs.Row.{Row}
use Rattle.linear_rows.specs.VariableOrder.{occurs_in_row}
use Rattle.linear_rows.specs.declared.occurrences.Occurrences.{Occurrences}

-- `first_row x i rows`: the variable `x`, and the index of the first row in which it occurs, if the
-- first row of `rows` has the index `i`; `None` if `x` occurs in no row.
abbrev pub first_row : ℕ → ℕ → List Row → Option (ℕ × ℕ)
first_row x i [] = None
first_row x i (r ∷ rows) = if occurs_in_row x r then Some (x, i) else first_row x (i + 1) rows

-- `AreOccurrences count rows o`: for each variable below `count`, `o` holds its first row in
-- `rows`.
pub record AreOccurrences (count : ℕ) (rows : List Row) (o : Occurrences) : Type 0 where
  pub counted : length o.first.items ≡ count
  pub each : (x : ℕ) → x < count → get_or o.first.items x None ≡ first_row x 0 rows
