use Rattle.heyvl_replies.proofs.FileLemmas.{typed_refused, typed_said}
use Rattle.heyvl_replies.proofs.commands.verify.respond.Goals as goal
use Rattle.command_rules.specs.commands.Verify.{IsReport}

pub returns-in-Ok : goal.returns-in-Ok
returns-in-Ok c = typed_said (IsReport c.args.bytes.now) c.args.bytes.now c.in-Ok.typed _ c.in-Ok.ensures c.report_typed.ensures

pub returns-in-Err : goal.returns-in-Err
returns-in-Err c = typed_refused (IsReport c.args.bytes.now) c.args.bytes.now c.in-Err.stop _ c.in-Err.ensures c.refused.ensures
