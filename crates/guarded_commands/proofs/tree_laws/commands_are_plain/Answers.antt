use Rattle.guarded_commands.proofs.PlainCommandsAre.{plain_commands}
use Rattle.guarded_commands.proofs.tree_laws.commands_are_plain.Goals as goal

pub returns : goal.returns
returns c = plain_commands
