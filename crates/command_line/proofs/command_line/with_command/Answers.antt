use Rattle.clap.specs.Words.{App, app_of, with_subcommand}
use Rattle.std.proofs.Common.{ap, ◌∙◌}
use Rattle.std.proofs.lemmas.Result.{IfOk-weaker}
use Rattle.command_line.proofs.command_line.with_command.Goals as goal

pub returns : goal.returns
returns c = IfOk-weaker c.subcommand.result _ _ (λ r h. h.shape c.in_ok-command.ensures.local ∙ ap (λ (a : App). with_subcommand (app_of c.args.tool) a.top) c.in_ok-command.ensures.shape) c.subcommand.ensures
