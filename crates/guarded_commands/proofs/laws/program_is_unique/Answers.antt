use Rattle.guarded_commands.proofs.ProgramClauses.{unique}
use Rattle.guarded_commands.proofs.laws.program_is_unique.Goals as goal

pub returns : goal.returns
returns c = unique
