use Rattle.std.proofs.Common.{◌≡◌, ◌+◌}
use Rattle.heyvl_acts.specs.Acts.{Act}
use Rattle.heyvl_acts.specs.PlainActs.{act_of, acts_of, arms_of}
use Rattle.ranking_rule.proofs.UpwardCopies.{ArmTurns, Turns}
use Rattle.heyvl_acts.proofs.exported.Weights.{weight, weight_of}
use Rattle.ranking_rule.proofs.upward_acts.+raising.Given as goal

abbrev pub decreases-upward : goal.decreases-upward
decreases-upward l = 1 + weight_of (acts_of l.acts.now)

abbrev pub decreases-add_upward : goal.decreases-add_upward
decreases-add_upward l = weight (act_of l.act.now)

-- The copies so far and those of the acts that are left make the copies of all acts.
abbrev pub invariant-upward-loop-act : goal.invariant-upward-loop-act
invariant-upward-loop-act l = Turns l.acts l.raised.items l.act-index

-- The copied arms so far and those that are left make all arms, and the act is the if of these
-- arms.
abbrev pub invariant-add_upward-loop-arm : goal.invariant-add_upward-loop-arm
invariant-add_upward-loop-arm l = ArmTurns l.arm-items l.blocks.items l.arm-index × (act_of l.act ≡ Act.ifs (arms_of l.arm-items) (acts_of l.other.items) l.span)
