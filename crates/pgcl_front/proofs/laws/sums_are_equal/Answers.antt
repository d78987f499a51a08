use Rattle.pgcl_front.proofs.MainSums.{sums_are_equal}
use Rattle.pgcl_front.proofs.laws.sums_are_equal.Goals as goal

pub returns : goal.returns
returns c = sums_are_equal
