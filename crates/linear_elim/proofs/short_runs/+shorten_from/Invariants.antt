use Rattle.std.proofs.Common.{length}
use Rattle.linear_elim.proofs.short_runs.+shorten_from.Given as goal

abbrev pub decreases-shorten_from : goal.decreases-shorten_from
decreases-shorten_from l = length l.order.now
