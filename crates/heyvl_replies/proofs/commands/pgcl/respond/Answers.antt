use Rattle.heyvl_syntax.specs.Procedures.{procedures}
use Rattle.heyvl_replies.proofs.ProgramReplies.{program_refused, program_said}
use Rattle.heyvl_replies.proofs.commands.pgcl.respond.Goals as goal

pub returns-in-Ok : goal.returns-in-Ok
returns-in-Ok c = program_said c.args.bytes.now (procedures c.in-Ok.file) _ c.in-Ok.ensures.made c.print_file.ensures

pub returns-in-Err : goal.returns-in-Err
returns-in-Err c = program_refused c.args.bytes.now c.in-Err.stop _ c.in-Err.ensures.made c.refused.ensures
