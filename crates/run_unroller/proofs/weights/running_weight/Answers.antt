use Rattle.std.proofs.Common.{sym, ◌∙◌, ◌+◌, drop}
use Rattle.std.specs.Prelude.{Some, None}
use Rattle.run_machine.specs.Replies.{stored_outcomes}
use Rattle.run_unroller.specs.Totals.{running}
use Rattle.run_unroller.proofs.AddedSums.{running_next, weights-none}
use Rattle.run_unroller.proofs.weights.running_weight.Goals as goal

pub loop-run-preserved : goal.loop-run-preserved
loop-run-preserved c = c.loop-run.invariant ∙ running_next (Some c.loop-run.sum) _ c.args.runs.now c.loop-run.run-index c.run-item.result c.loop-run-test.true c.run-item.is c.in_ok-sum.ensures

pub returns-in_err-sum : goal.returns-in_err-sum
returns-in_err-sum c =
    c.from_residual.ensures
    ∙ sym (c.loop-run.invariant ∙ running_next (Some c.loop-run.sum) None c.args.runs.now c.loop-run.run-index c.run-item.result c.loop-run-test.true c.run-item.is c.in_err-sum.ensures ∙ weights-none (running (stored_outcomes (drop (c.loop-run.run-index + 1) c.args.runs.now))))
