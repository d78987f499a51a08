use Rattle.heyvl_replies.proofs.FileLemmas.{typed_refused, typed_said}
use Rattle.heyvl_replies.proofs.commands.certify.respond.Goals as goal
use Rattle.command_rules.specs.commands.Certify.{IsCertification}

pub returns-in-Ok : goal.returns-in-Ok
returns-in-Ok c = typed_said IsCertification c.args.bytes.now c.in-Ok.typed _ c.in-Ok.ensures c.certify_typed.ensures

pub returns-in-Err : goal.returns-in-Err
returns-in-Err c = typed_refused IsCertification c.args.bytes.now c.in-Err.stop _ c.in-Err.ensures c.refused.ensures
