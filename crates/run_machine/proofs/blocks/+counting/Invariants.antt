use Rattle.std.proofs.Common.{◌≡◌, ◌+◌, ◌<◌, ◌^◌, length}
use Rattle.heyvl_acts.specs.PlainActs.{act_of, acts_of}
use Rattle.heyvl_acts.specs.Places.{in_order, inside}
use Rattle.run_machine.proofs.BlockSizes.{size_from, arms_from}
use Rattle.run_machine.proofs.blocks.+counting.Given as goal

abbrev pub invariant-size-loop-act : goal.invariant-size-loop-act
invariant-size-loop-act l = length (in_order (acts_of l.acts)) < 2 ^ 31 → l.total + size_from l.acts l.act-index ≡ length (in_order (acts_of l.acts))

abbrev pub invariant-inside_size-loop-arm : goal.invariant-inside_size-loop-arm
invariant-inside_size-loop-arm l = length (inside (act_of l.act)) < 2 ^ 31 → l.total + arms_from l.arm-items l.arm-index ≡ length (inside (act_of l.act))
