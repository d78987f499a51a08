use Rattle.std.proofs.Common.{◌≡◌, drop}
use Prim.Native.Nat.{suc}
use Rattle.std.specs.Prelude.{Some}
use Rattle.run_machine.specs.Replies.{stored_outcomes}
use Rattle.run_unroller.specs.Totals.{added_fractions, turns_of, turns_total}
use Rattle.run_unroller.proofs.turns.turns_sum.Given as goal

abbrev pub invariant-loop-run : goal.invariant-loop-run
invariant-loop-run l = turns_total (suc l.index) (stored_outcomes l.runs) ≡ added_fractions (turns_of (suc l.index)) (Some l.sum) (stored_outcomes (drop l.run-index l.runs))
