-- The law that allows dominated rows to be left out.
use Rattle.std.specs.Prelude.{List}
use Rattle.std.specs.List.{All}
use Rattle.linear_rows.specs.Row.{Row}
use Rattle.linear_rows.specs.Points.{Point, Meets}
use Rattle.linear_dominance.specs.DominatedRows.{undominated}

-- A point that satisfies the rows that no other row dominates satisfies all rows.
abbrev pub UndominatedRowsTellAll : Type 0
UndominatedRowsTellAll = (w : Point) (rows : List Row) → All (Meets w) (undominated rows)
    → All (Meets w) rows
