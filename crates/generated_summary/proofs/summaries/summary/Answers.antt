use Rattle.generated_summary.proofs.WrittenSummary.{summary_written}
use Rattle.generated_summary.proofs.summaries.summary.Goals as goal

pub returns : goal.returns
returns c =
    summary_written c.args.lines c.verified.result c.not_verified.result c.others.result c.args.answers.now _ _ _ _ _ _ c.in_ok-text.ensures.items c.verified.ensures c.not_verified.ensures c.others.ensures
    c.in_ok-write_count.ensures c.in_ok-write_count-2.ensures c.in_ok-write_count-3.ensures c.in_ok-write_count-4.ensures c.in_ok-write_count-5.ensures
