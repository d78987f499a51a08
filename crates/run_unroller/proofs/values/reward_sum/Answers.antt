use Rattle.std.proofs.Common.{ap, sym, ◌∙◌, ◌+◌, drop}
use Rattle.std.specs.Prelude.{Some, None, option_map}
use Rattle.heyvl_num.specs.ExtendedNumbers.{value_of}
use Rattle.run_machine.specs.Replies.{stored_outcomes}
use Rattle.run_unroller.specs.Totals.{added, reward_of}
use Rattle.run_unroller.proofs.AddedSums.{added-none, value_next}
use Rattle.run_unroller.proofs.FoundProcedures.{zero_value}
use Rattle.run_unroller.proofs.values.reward_sum.Goals as goal

pub loop-run-init : goal.loop-run-init
loop-run-init c = ap (λ z. added reward_of (Some z) (stored_outcomes c.args.runs.now)) (zero_value _ c.zero.ensures)

pub returns-in_err-sum : goal.returns-in_err-sum
returns-in_err-sum c =
    ap (option_map value_of) c.from_residual.ensures
    ∙ sym (c.loop-run.invariant ∙ value_next reward_of (Some (value_of c.loop-run.sum)) None c.args.runs.now c.loop-run.run-index c.run-item.result c.loop-run-test.true c.run-item.is c.in_err-sum.ensures ∙ added-none reward_of (stored_outcomes (drop (c.loop-run.run-index + 1) c.args.runs.now)))
