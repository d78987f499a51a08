use Rattle.heyvl_replies.proofs.ReportNeeds.{can_report, short_bytes}
use Rattle.heyvl_replies.proofs.commands.verify.report_typed.Goals as goal

pub report-requires : goal.report-requires
report-requires c =
    rw c.deref.ensures.value
    (can_report c.args.bytes.now c.args.typed.now c.in_ok-whole.whole.answers.items c.in_ok-whole.whole.made.items c.in_ok-whole.whole.certs.items (short_bytes c.args.bytes.now c.requires.short) c.requires.ready.rules c.in_ok-whole.ensures.answered
    (c.in_ok-whole.ensures.placed _ c.requires.ready.stand))
