use Rattle.run_laws.proofs.exported.GrowingSums.{sums_grow}
use Rattle.run_laws.proofs.laws.sums_grow.Goals as goal

pub returns : goal.returns
returns c = sums_grow
