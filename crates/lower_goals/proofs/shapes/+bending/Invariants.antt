use Rattle.std.proofs.Common.{◌≡◌, ◌∷◌}
use Rattle.heyvl_acts.specs.Places.{in_order, inside}
use Rattle.heyvl_acts.specs.PlainActs.{act_of, acts_of}
use Rattle.lower_goals.specs.internal.Shapes.{all_straight}
use Rattle.heyvl_acts.proofs.exported.ActsInOrder.{acts_from, arms_from}
use Rattle.lower_goals.proofs.shapes.+bending.Given as goal

-- The acts that are left are neither loops nor calls exactly if all acts are neither.
abbrev pub invariant-are_straight-loop-act : goal.invariant-are_straight-loop-act
invariant-are_straight-loop-act l = all_straight (acts_from l.acts l.act-index) ≡ all_straight (in_order (acts_of l.acts))

abbrev pub invariant-is_straight-loop-arm : goal.invariant-is_straight-loop-arm
invariant-is_straight-loop-arm l = all_straight (arms_from l.arm-items l.arm-index (in_order (acts_of l.other.items))) ≡ all_straight (act_of l.act ∷ inside (act_of l.act))
