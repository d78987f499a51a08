-- The outcomes of the program as those of the definitions.
use Rattle.std.specs.Prelude.{◌≡◌, ℕ, List}
use Rattle.linear_rows.specs.Row.{Row}
use Rattle.linear_rows.specs.Solutions.{IsSolvable}
use Rattle.linear_elim.specs.Steps.{undominated}
use Rattle.linear_elim.specs.Elimination as plain
use Rattle.linear_elim.specs.Elimination.Rule.{keeps, drops}
use Rattle.linear_elim.specs.declared.gathered_rows.Gathering.{Gathering}
use Rattle.linear_elim.specs.declared.short_runs.Short as Short
use Rattle.linear_elim.specs.declared.short_runs.Short.{Short}
use Rattle.linear_elim.specs.declared.elimination.Outcome.{Outcome}
use Rattle.linear_elim.specs.declared.elimination.Outcome.TheVariants.{Refuted, Standing, TooMany}
use Rattle.linear_elim.specs.declared.elimination.Outcome.TheVariants.{TooGreat}

abbrev pub outcome_of : Outcome → plain.Outcome
outcome_of (Refuted c) = plain.Outcome.refuted c
outcome_of (Standing ss) = plain.Outcome.standing ss.items
outcome_of (TooMany n c) = plain.Outcome.too_many n c
outcome_of TooGreat = plain.Outcome.too_great

abbrev pub gathering_of : Gathering → plain.Gathered
gathering_of g = record { found = g.found; rows = g.rows.items }

-- `Decided rows o`: the outcome `o` decides whether `rows` are solvable, unless it is a limit.
abbrev pub Decided : List Row → Outcome → Type 0
Decided rows (Refuted c) = IsSolvable rows → ⊥
Decided rows (Standing ss) = IsSolvable rows
Decided rows (TooMany n c) = Unit {0}
Decided rows TooGreat = Unit {0}

-- `IsLimited o`: the outcome `o` is more than 4,096 rows, or an overflow.
abbrev pub IsLimited : plain.Outcome → Type 0
IsLimited (plain.Outcome.refuted c) = ⊥
IsLimited (plain.Outcome.standing ss) = ⊥
IsLimited (plain.Outcome.too_many n c) = Unit {0}
IsLimited plain.Outcome.too_great = Unit {0}

-- `short_gathering g`: the gathered rows without the dominated ones.
abbrev pub short_gathering : Gathering → plain.Gathered
short_gathering g = record { found = g.found; rows = undominated g.rows.items }

-- `IsSameShort order now`: the elimination of the rows `now` is the same without dominated rows.
abbrev pub IsSameShort : List ℕ → Gathering → Type 0
IsSameShort order now = (n : ℕ)
    → plain.run drops n order (short_gathering now) ≡ plain.run keeps n order (gathering_of now)

-- `IsShort s o`: the outcome `s` of the elimination without dominated rows describes the outcome
-- `o`.
abbrev pub IsShort : Short → plain.Outcome → Type 0
IsShort (Short.TheVariants.Refuted c) o = plain.Outcome.refuted c ≡ o
IsShort (Short.TheVariants.Standing ss) o = plain.Outcome.standing ss.items ≡ o
IsShort Short.TheVariants.Limited o = IsLimited o
