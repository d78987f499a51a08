use Rattle.pgcl_front.proofs.MainBounds.{bounds_carry_over}
use Rattle.pgcl_front.proofs.laws.bounds_carry_over.Goals as goal

pub returns : goal.returns
returns c = bounds_carry_over
