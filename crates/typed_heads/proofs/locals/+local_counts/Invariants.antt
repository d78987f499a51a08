use Rattle.typed_heads.proofs.LocalsLeft.{arm_locals_left, locals_left}
use Rattle.typed_heads.proofs.locals.+local_counts.Given as goal
use Rattle.std.proofs.Common.{◌+◌, ◌≡◌}

-- The variables counted so far and those from the index on are all.
abbrev pub invariant-count_block-loop-one : goal.invariant-count_block-loop-one
invariant-count_block-loop-one l = l.count + locals_left l.statements l.one-index ≡ locals_left l.statements 0

abbrev pub invariant-count_arms-loop-arm : goal.invariant-count_arms-loop-arm
invariant-count_arms-loop-arm l = l.count + arm_locals_left l.all l.arm-index ≡ arm_locals_left l.all 0
