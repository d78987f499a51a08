use Rattle.std.proofs.Common.{ℕ, ◌<◌}
use Rattle.linear_elim.specs.internal.CountedRows.{nth}
use Rattle.linear_elim.specs.internal.SmallRows.{IsSmall}
use Rattle.linear_elim.proofs.small_joins.all_small.Given as goal

abbrev pub invariant-loop-i : goal.invariant-loop-i
invariant-loop-i l = (k : ℕ) → k < l.i → IsSmall (nth l.rows k)
