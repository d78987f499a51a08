use Rattle.heyvl_parse.proofs.exported.Wholes.{fault_clause, found_clause}
use Rattle.guarded_commands.proofs.ProgramLaws.{program_laws}
use Rattle.guarded_commands.proofs.program_reader.spelled.Goals as goal
use Rattle.guarded_commands.specs.Grammar.{IsProg}
use Rattle.guarded_commands.specs.Programs.{program_tree}
use Rattle.guarded_commands.specs.internal.Programs.{program}

pub returns-clause-found : goal.returns-clause-found
returns-clause-found c = found_clause IsProg program program_laws program_tree c.args.tokens.now c.program.result c.program.ensures.value

pub returns-clause-fault : goal.returns-clause-fault
returns-clause-fault c = fault_clause IsProg program program_laws program_tree c.args.tokens.now c.program.result c.program.ensures.value
