use Rattle.run_unroller.proofs.ScriptedGrowth.{scripted_sums_grow}
use Rattle.run_unroller.proofs.laws.scripted_sums_grow.Goals as goal

pub returns : goal.returns
returns c = scripted_sums_grow
