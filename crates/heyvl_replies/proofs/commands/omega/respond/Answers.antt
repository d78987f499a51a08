use Rattle.heyvl_replies.proofs.FileLemmas.{typed_refused, typed_said}
use Rattle.heyvl_replies.proofs.commands.omega.respond.Goals as goal
use Rattle.command_rules.specs.commands.Omega.{IsOmegaOf}

pub returns-in-Ok : goal.returns-in-Ok
returns-in-Ok c = typed_said (IsOmegaOf c.args.procedure.now c.args.name.now c.args.bytes.now) c.args.bytes.now c.in-Ok.typed _ c.in-Ok.ensures c.of_names.ensures

pub returns-in-Err : goal.returns-in-Err
returns-in-Err c = typed_refused (IsOmegaOf c.args.procedure.now c.args.name.now c.args.bytes.now) c.args.bytes.now c.in-Err.stop _ c.in-Err.ensures c.refused.ensures
