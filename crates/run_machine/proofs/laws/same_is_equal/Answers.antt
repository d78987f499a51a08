use Rattle.run_machine.proofs.exported.SameConfigs as same
use Rattle.run_machine.proofs.laws.same_is_equal.Goals as goal

pub returns : goal.returns
returns c = same.same_is_equal
