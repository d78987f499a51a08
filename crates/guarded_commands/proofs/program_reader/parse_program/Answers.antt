use Rattle.guarded_commands.proofs.ProgramClauses.{only_fault, only_program}
use Rattle.guarded_commands.proofs.program_reader.parse_program.Goals as goal

pub returns-clause-only : goal.returns-clause-only
returns-clause-only c = only_program c.args.tokens.now c.program_or_fault.result c.program_or_fault.ensures.found c.program_or_fault.ensures.fault

pub returns-clause-only_fault : goal.returns-clause-only_fault
returns-clause-only_fault c = only_fault c.args.tokens.now c.program_or_fault.result c.program_or_fault.ensures.found c.program_or_fault.ensures.fault
