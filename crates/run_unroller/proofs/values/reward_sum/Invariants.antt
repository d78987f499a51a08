use Rattle.std.proofs.Common.{◌≡◌, drop}
use Rattle.std.specs.Prelude.{Some}
use Rattle.heyvl_num.specs.ExtendedNumbers.{value_of}
use Rattle.run_machine.specs.Replies.{stored_outcomes}
use Rattle.run_unroller.specs.Totals.{added, reward_of, reward_total}
use Rattle.run_unroller.proofs.values.reward_sum.Given as goal

abbrev pub invariant-loop-run : goal.invariant-loop-run
invariant-loop-run l = reward_total (stored_outcomes l.runs) ≡ added reward_of (Some (value_of l.sum)) (stored_outcomes (drop l.run-index l.runs))
