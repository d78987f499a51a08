use Rattle.std.proofs.Common.{length}
use Rattle.linear_values.proofs.tightening.+factors.Given as goal

abbrev pub decreases-factor_of : goal.decreases-factor_of
decreases-factor_of l = length l.terms.now
