use Rattle.std.proofs.Common.{◌≡◌, ◌++◌, ◌-◌}
use Rattle.run_machine.specs.StoredMoves.{out_items}
use Rattle.run_machine.proofs.call_steps.push_outs.Given as goal

abbrev pub invariant-loop-x : goal.invariant-loop-x
invariant-loop-x l = l.items.items ++ out_items l.q l.x (l.x-end - l.x) ≡ l.initial.items.items ++ out_items l.q l.callee.inputs l.callee.outputs
