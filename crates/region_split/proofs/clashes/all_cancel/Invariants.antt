use Rattle.std.proofs.Common.{length}
use Rattle.region_split.specs.internal.Clashes.{Cancel}
use Rattle.region_split.proofs.clashes.all_cancel.Given as goal

abbrev pub invariant-terms : goal.invariant-terms
invariant-terms l = Cancel l.least l.terms l.others → Cancel 0 l.fn.first l.fn.second

abbrev pub decreases-terms : goal.decreases-terms
decreases-terms l = length l.terms
