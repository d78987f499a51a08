use Rattle.std.specs.Prelude.{codes, decimal}
use Rattle.verdict_report.proofs.Texts.{two_parts}
use Rattle.verdict_report.proofs.causes.write_step.Goals as goal

pub returns : goal.returns
returns c = two_parts c.args.text.now.items _ _ (codes "rows at step ") (decimal c.args.step) c.in_ok-extend_from_slice.ensures.items c.in_ok-write_number.ensures
