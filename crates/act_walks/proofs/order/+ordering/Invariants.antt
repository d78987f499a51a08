use Rattle.std.proofs.Common.{◌≡◌, ◌++◌, map}
use Rattle.heyvl_acts.specs.Places.{in_order, inside}
use Rattle.heyvl_acts.specs.PlainActs.{act_of, acts_of}
use Rattle.act_walks.specs.Lent.{lent}
use Rattle.heyvl_acts.proofs.exported.ActsInOrder.{acts_from, arms_from}
use Rattle.act_walks.proofs.order.+ordering.Given as goal

-- The appended acts and those of the remaining ones are all acts.
abbrev pub invariant-add_all-loop-act : goal.invariant-add_all-loop-act
invariant-add_all-loop-act l = map lent l.all.items ++ acts_from l.acts l.act-index ≡ map lent l.initial.all.items ++ in_order (acts_of l.acts)

abbrev pub invariant-add_inside-loop-arm : goal.invariant-add_inside-loop-arm
invariant-add_inside-loop-arm l = map lent l.all.items ++ arms_from l.arm-items l.arm-index (in_order (acts_of l.other.items)) ≡ map lent l.initial.all.items ++ inside (act_of l.act)
