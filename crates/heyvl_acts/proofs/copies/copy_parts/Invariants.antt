use Rattle.heyvl_acts.proofs.copies.copy_parts.Given as goal
use Rattle.heyvl_acts.specs.PlainActs.{parts_of}
use Rattle.std.proofs.Common.{take, ◌≡◌}

-- The copied alternatives are equal to the visited ones.
abbrev pub invariant-loop-weight : goal.invariant-loop-weight
invariant-loop-weight l = parts_of l.copied.items ≡ parts_of (take l.weight-index l.all)
