use Rattle.std.proofs.Common.{ℕ, take}
use Rattle.linear_rows.specs.Occurrences.{AreOccurrences}
use Rattle.linear_rows.proofs.occurrences.Occurrences.note.Given as goal

-- The rows before the index are in the table.
abbrev pub invariant-loop-i : goal.invariant-loop-i
invariant-loop-i l = (count : ℕ) → AreOccurrences count (take l.from l.rows) l.initial.self → AreOccurrences count (take l.i l.rows) l.self
