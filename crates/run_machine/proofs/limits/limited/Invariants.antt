use Rattle.std.proofs.Common.{◌≡◌, drop}
use Rattle.run_machine.specs.Replies.{any_large, stored_outcomes}
use Rattle.run_machine.proofs.limits.limited.Given as goal

abbrev pub invariant-loop-outcome : goal.invariant-loop-outcome
invariant-loop-outcome l = any_large (stored_outcomes l.outcome-items) ≡ any_large (stored_outcomes (drop l.outcome-index l.outcome-items))
