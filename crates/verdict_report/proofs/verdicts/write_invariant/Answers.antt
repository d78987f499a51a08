use Rattle.std.specs.Prelude.{codes, decimal}
use Rattle.verdict_report.proofs.Texts.{three_parts}
use Rattle.verdict_report.proofs.verdicts.write_invariant.Goals as goal

pub returns : goal.returns
returns c = three_parts c.args.text.now.items _ _ _ (codes "invariant of loop ") (decimal c.args.number) (codes " at most 1") c.in_ok-extend_from_slice.ensures.items c.in_ok-write_number.ensures c.in_ok-extend_from_slice-2.ensures.items
