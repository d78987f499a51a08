-- The results of a search.
use Rattle.std.specs.Prelude.{List}
use Rattle.linear_rows.specs.Row.{Row}
use Rattle.linear_rows.specs.Solutions.{IsSolvable}
use Rattle.linear_rows.specs.Combination.{IsContradiction}
use Rattle.linear_guess.specs.declared.findings.Finding.{Finding}
use Rattle.linear_guess.specs.declared.findings.Finding.TheVariants.{Refuted, Met, Open}

-- `IsFinding rows f`: multipliers combine the rows to a contradiction, and `Met` says that they
-- have a solution.
abbrev pub IsFinding : List Row → Finding → Type 0
IsFinding rows (Refuted ms) = IsContradiction ms.items rows
IsFinding rows Met = IsSolvable rows
IsFinding rows Open = Unit {0}
