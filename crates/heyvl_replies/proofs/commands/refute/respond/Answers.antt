use Rattle.heyvl_replies.proofs.FileLemmas.{typed_refused, typed_said}
use Rattle.heyvl_replies.proofs.commands.refute.respond.Goals as goal
use Rattle.command_rules.specs.commands.Refute.{IsRefuteOf}

pub returns-in-Ok : goal.returns-in-Ok
returns-in-Ok c = typed_said (IsRefuteOf c.args.name.now c.args.script.now) c.args.bytes.now c.in-Ok.typed _ c.in-Ok.ensures c.refute_typed.ensures

pub returns-in-Err : goal.returns-in-Err
returns-in-Err c = typed_refused (IsRefuteOf c.args.name.now c.args.script.now) c.args.bytes.now c.in-Err.stop _ c.in-Err.ensures c.refused.ensures
