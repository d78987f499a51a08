use Rattle.generated_summary.proofs.NoFault.{reported}
use Rattle.generated_summary.proofs.reports.summarize.Goals as goal

pub returns : goal.returns
returns c =
    reported c.spelling_is_unique.ensures c.args.lines c.in_ok-bytes.bytes.items c.deref.result.now c.in_ok-typed.typed c.in_ok-whole.whole.answers.items _ c.in_ok-whole.whole.made.items c.in_ok-whole.whole.certs.items c.in_ok-text.text.items
    (c.generated_texts_are_faultless.ensures c.args.lines c.requires) c.deref.ensures.value c.in_ok-bytes.ensures c.in_ok-typed.ensures c.in_ok-whole.ensures.answered c.in_ok-whole.ensures.headline c.deref-2.ensures.value c.in_ok-text.ensures
