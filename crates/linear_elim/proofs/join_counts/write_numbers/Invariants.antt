use Rattle.std.proofs.Common.{◌≡◌, ℕ, ◌<◌, length, get_or}
use Rattle.linear_elim.specs.internal.CountedRows.{IsNumberOf}
use Rattle.linear_elim.proofs.join_counts.write_numbers.Given as goal

abbrev pub invariant-loop-j : goal.invariant-loop-j
invariant-loop-j l = record { as_many : length l.numbers.items ≡ l.j; each : (k : ℕ) → k < l.j → IsNumberOf (get_or l.numbers.items k 0) l.step l.i k }
