use Rattle.run_unroller.proofs.UnrolledSums as sums
use Rattle.run_unroller.proofs.laws.unrolled_sums_are_meant.Goals as goal

pub returns : goal.returns
returns c = sums.unrolled_are c.totals_are_sums.ensures
