use Rattle.cert_text.specs.Texts.{IsFirstFault}
use Rattle.heyvl_replies.proofs.commands.check.check_typed.Goals as goal
use Rattle.command_rules.specs.commands.Check.IsCheckedReply.{by_line}
use Rattle.std.proofs.Common.{subst, sym}
use Rattle.std.proofs.lemmas.Result.{IfOk-weaker}

pub returns-in-Err-Fault : goal.returns-in-Err-Fault
returns-in-Err-Fault c =
    let fault : IsFirstFault c.args.text.now c.in-Err-Fault.line = rw c.in-Err-Fault.field-0-is at c.in-Err-Fault.ensures.fault in
    IfOk-weaker c.certificate_fault.result _ _ (λ r h. by_line _ (subst (IsFirstFault c.args.text.now) (sym c.in-Err-Fault.line-is) fault) h) c.certificate_fault.ensures
