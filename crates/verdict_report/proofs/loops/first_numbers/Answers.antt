use Rattle.std.proofs.Common.{arith, ◌∙◌}
use Rattle.verdict_report.proofs.NumberLists.{next_number}
use Rattle.verdict_report.proofs.loops.first_numbers.Goals as goal

pub loop-number-preserved : goal.loop-number-preserved
loop-number-preserved c = (next_number c.loop-number.all.items _ c.loop-number.number c.args.count c.loop-number-test.true c.in_ok-push.ensures.items ∙ c.loop-number.invariant.0, let lt = c.loop-number-test.true in omega (arith, lt))
