use Rattle.std.proofs.Common.{◌≡◌, ◌+◌, length, map}
use Rattle.run_machine.specs.Names.{lists_of}
use Rattle.run_machine.specs.Replies.{list_values}
use Rattle.run_machine.proofs.Depths.{values_from}
use Rattle.run_machine.proofs.limits.is_deep.Given as goal

abbrev pub invariant-loop-frame : goal.invariant-loop-frame
invariant-loop-frame l = length l.config.state.items + list_values (map lists_of l.config.frames.items) + l.room ≡ 512 + values_from l.frame-items l.frame-index
