use Rattle.std.proofs.Common.{length, ◌+◌}
use Rattle.linear_values.specs.internal.Loops.{IsMergedSoFar}
use Rattle.linear_values.proofs.linear_terms.merged.Given as goal

abbrev pub decreases-terms : goal.decreases-terms
decreases-terms l = length l.left + length l.right

abbrev pub invariant-terms : goal.invariant-terms
invariant-terms l = IsMergedSoFar l.downward l.fn.from l.fn.into l.made.items l.left l.right
