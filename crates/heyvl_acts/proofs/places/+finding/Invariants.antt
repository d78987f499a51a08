use Rattle.heyvl_acts.proofs.places.+finding.Given as goal
use Rattle.heyvl_acts.proofs.exported.ActsInOrder.{acts_from, arms_from}
use Rattle.heyvl_acts.specs.PlainActs.{act_of, acts_of}
use Rattle.heyvl_acts.specs.Places.{in_order, inside}
use Rattle.heyvl_acts.specs.internal.PlaceWalks.{Behind}

-- The place is among the remaining acts, with the remaining index.
abbrev pub invariant-among-loop-act : goal.invariant-among-loop-act
invariant-among-loop-act l = Behind (in_order (acts_of l.acts)) l.fn.place (acts_from l.acts l.act-index) l.left

abbrev pub invariant-within-loop-arm : goal.invariant-within-loop-arm
invariant-within-loop-arm l = Behind (inside (act_of l.act)) l.fn.place (arms_from l.arm-items l.arm-index (in_order (acts_of l.other.items))) l.left
