use Rattle.std.proofs.Common.{◌≡◌, ◌++◌, ◌+◌, ◌-◌, ◌≤◌, drop, length}
use Rattle.linear_rows.specs.Terms.{IsNormal}
use Rattle.linear_rows.specs.TermResults.{merged_terms}
use Rattle.linear_rows.proofs.terms.merged.Given as goal

abbrev pub invariant-loop-i : goal.invariant-loop-i
invariant-loop-i l = record { left_within : l.i ≤ length l.a; right_within : l.j ≤ length l.b; left_rest : IsNormal (drop l.i l.a); right_rest : IsNormal (drop l.j l.b); so_far : l.out.items ++ merged_terms (drop l.i l.a) (drop l.j l.b) ≡ merged_terms l.fn.a l.fn.b }

abbrev pub decreases-loop-i : goal.decreases-loop-i
decreases-loop-i l = (length l.a + length l.b) - (l.i + l.j)
