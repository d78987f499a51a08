use Rattle.std.proofs.Common.{◌≡◌, drop}
use Rattle.std.specs.Prelude.{Some}
use Rattle.run_machine.specs.Replies.{stored_outcomes}
use Rattle.run_unroller.specs.Totals.{added_weights, running, running_total}
use Rattle.run_unroller.proofs.weights.running_weight.Given as goal

abbrev pub invariant-loop-run : goal.invariant-loop-run
invariant-loop-run l = running_total (stored_outcomes l.runs) ≡ added_weights (Some l.sum) (running (stored_outcomes (drop l.run-index l.runs)))
