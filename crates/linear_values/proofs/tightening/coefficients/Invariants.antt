use Rattle.std.proofs.Common.{length}
use Rattle.linear_values.specs.internal.Loops.{IsRowSoFar}
use Rattle.linear_values.proofs.tightening.coefficients.Given as goal

abbrev pub decreases-terms : goal.decreases-terms
decreases-terms l = length l.rest

abbrev pub invariant-terms : goal.invariant-terms
invariant-terms l = IsRowSoFar l.scale l.factor l.fn.terms l.made.items l.rest
