use Rattle.std.proofs.Common.{length}
use Rattle.linear_values.specs.internal.Loops.{IsTimesSoFar}
use Rattle.linear_values.proofs.lin.times.Given as goal

abbrev pub decreases-terms : goal.decreases-terms
decreases-terms l = length l.rest

abbrev pub invariant-terms : goal.invariant-terms
invariant-terms l = IsTimesSoFar l.w l.fn.terms l.made.items l.rest
