use Rattle.std.proofs.Common.{◌≡◌, ◌+◌, ◌-◌, ◌≤◌, drop, length}
use Rattle.linear_rows.specs.Terms.{IsNormal}
use Rattle.linear_dominance.specs.DominatedRows.{less, is_increase}
use Rattle.linear_dominance.proofs.DifferenceWalk.{still}
use Rattle.linear_dominance.proofs.dominance.are_greater.Given as goal

abbrev pub invariant-loop-i : goal.invariant-loop-i
invariant-loop-i l = record { left_within : l.i ≤ length l.a; right_within : l.j ≤ length l.b; left_rest : IsNormal (drop l.i l.a); right_rest : IsNormal (drop l.j l.b); so_far : still l.differs l.signed (less (drop l.i l.a) (drop l.j l.b)) ≡ is_increase l.fn.signed (less l.fn.a l.fn.b) }

abbrev pub decreases-loop-i : goal.decreases-loop-i
decreases-loop-i l = (length l.a + length l.b) - (l.i + l.j)
