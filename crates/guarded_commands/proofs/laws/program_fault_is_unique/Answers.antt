use Rattle.guarded_commands.proofs.ProgramClauses.{fault_unique}
use Rattle.guarded_commands.proofs.laws.program_fault_is_unique.Goals as goal

pub returns : goal.returns
returns c = fault_unique
