-- The laws of rows and their combinations.
use Rattle.std.specs.Prelude.{◌↔◌, ℕ, List}
use Rattle.linear_rows.specs.Row.{Row}
use Rattle.linear_rows.specs.Points.{IsMetSomewhere}
use Rattle.linear_rows.specs.Solutions.{IsSolvable}
use Rattle.linear_rows.specs.Combination.{IsContradiction}

-- Rows that some multipliers combine to a contradiction have no solution.
abbrev pub ContradictionsExclude : Type 0
ContradictionsExclude = (ms : List (ℕ × ℕ)) (rows : List Row) → IsContradiction ms rows
    → IsSolvable rows → ⊥

-- Rows are solvable exactly if some point over a common denominator satisfies them.
abbrev pub PointsSuffice : Type 0
PointsSuffice = (rows : List Row) → IsSolvable rows ↔ IsMetSomewhere rows
