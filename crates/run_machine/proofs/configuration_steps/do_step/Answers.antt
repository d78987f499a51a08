use Rattle.std.proofs.Common.{ap, sym, ◌∙◌}
use Rattle.heyvl_acts.specs.PlainActs.{procedures_of}
use Rattle.heyvl_acts.specs.Places.{held}
use Rattle.run_machine.specs.Names.{stored}
use Rattle.run_machine.proofs.Steps.{some_act}
use Rattle.run_machine.proofs.configuration_steps.do_step.Goals as goal

pub unreachable-requires : goal.unreachable-requires
unreachable-requires c = some_act (procedures_of c.args.typed.now) (stored c.args.config.now) c.args.p c.args.place c.requires.config c.requires.first (sym c.act_at.ensures ∙ ap held c.in-None.is)
