use Rattle.std.proofs.Common.{◌≡◌, ◌∷◌}
use Rattle.heyvl_acts.specs.Places.{in_order, inside}
use Rattle.heyvl_acts.specs.PlainActs.{act_of, acts_of}
use Rattle.act_walks.specs.Loops.{loop_in}
use Rattle.heyvl_acts.proofs.exported.ActsInOrder.{acts_from, arms_from}
use Rattle.act_walks.proofs.loops.+finding.Given as goal

-- The first loop among the remaining acts is the first loop of all.
abbrev pub invariant-loop_among-loop-act : goal.invariant-loop_among-loop-act
invariant-loop_among-loop-act l = loop_in l.number (acts_from l.acts l.act-index) ≡ loop_in l.number (in_order (acts_of l.acts))

abbrev pub invariant-loop_from-loop-arm : goal.invariant-loop_from-loop-arm
invariant-loop_from-loop-arm l = loop_in l.number (arms_from l.arm-items l.arm-index (in_order (acts_of l.other.items))) ≡ loop_in l.number (act_of l.act ∷ inside (act_of l.act))
