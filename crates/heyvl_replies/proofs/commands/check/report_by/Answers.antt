use Rattle.heyvl_replies.proofs.CheckedReports.{can_report_checked}
use Rattle.heyvl_replies.proofs.ReportNeeds.{short_bytes}
use Rattle.heyvl_replies.proofs.commands.check.report_by.Goals as goal

pub report-requires : goal.report-requires
report-requires c =
    rw c.deref.ensures.value
    (can_report_checked c.args.bytes.now c.args.typed.now c.args.certs.now c.in_ok-whole.whole.answers.items (short_bytes c.args.bytes.now c.requires.short) c.requires.ready.rules c.in_ok-whole.ensures.checked
    (c.in_ok-whole.ensures.placed _ c.requires.ready.stand))
