use Rattle.std.proofs.Common.{◌∙◌}
use Rattle.run_machine.proofs.exported.SameConfigs.{compares_stored}
use Rattle.run_machine.proofs.configurations.Config.is_same.Goals as goal

pub returns : goal.returns
returns c = c.eq.ensures ∙ compares_stored c.args.self.now c.args.other.now
