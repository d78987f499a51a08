use Rattle.heyvl_acts.proofs.acts.+copying.Given as goal
use Rattle.heyvl_acts.specs.Acts.{Act}
use Rattle.heyvl_acts.specs.PlainActs.{act_of, acts_of, arm_of, arms_of}
use Rattle.std.proofs.Common.{map, take, ◌≡◌}

-- The copied acts are equal to the visited ones.
abbrev pub invariant-Act::copy_all-loop-one : goal.invariant-Act::copy_all-loop-one
invariant-Act::copy_all-loop-one l = map act_of l.copied.items ≡ map act_of (take l.one-index l.all)

-- The copied arms are equal to the visited ones, and the act is the `if` of these arms.
abbrev pub invariant-Act::copy-loop-arm : goal.invariant-Act::copy-loop-arm
invariant-Act::copy-loop-arm l = (map arm_of l.copied.items ≡ map arm_of (take l.arm-index l.arm-items)) × (act_of l.self ≡ Act.ifs (arms_of l.arm-items) (acts_of l.other.items) l.span)
