use Rattle.std.proofs.Common.{◌≡◌, ◌≤◌, drop, length}
use Rattle.linear_rows.specs.Divisors.{common}
use Rattle.linear_elim.proofs.small_joins.divisor_in.Given as goal

abbrev pub invariant-loop-i : goal.invariant-loop-i
invariant-loop-i l = record { within : l.i ≤ length l.terms; so_far : l.common ≡ common (drop l.i l.terms) l.fn.n }

abbrev pub decreases-loop-i : goal.decreases-loop-i
decreases-loop-i l = l.i
