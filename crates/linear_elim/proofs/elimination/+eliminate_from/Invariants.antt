use Rattle.std.proofs.Common.{length}
use Rattle.linear_elim.proofs.elimination.+eliminate_from.Given as goal

abbrev pub decreases-eliminate_from : goal.decreases-eliminate_from
decreases-eliminate_from l = length l.order.now
