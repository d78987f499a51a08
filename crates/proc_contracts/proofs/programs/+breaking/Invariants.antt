use Rattle.std.proofs.Common.{◌≡◌, ◌∷◌}
use Rattle.heyvl_acts.specs.Places.{in_order, inside}
use Rattle.heyvl_acts.specs.PlainActs.{act_of, acts_of}
use Rattle.heyvl_acts.specs.Program.{first_break}
use Rattle.heyvl_acts.proofs.exported.ActsInOrder.{acts_from, arms_from}
use Rattle.proc_contracts.proofs.programs.+breaking.Given as goal

-- The first break of the remaining acts is the first of all.
abbrev pub invariant-first_break-loop-act : goal.invariant-first_break-loop-act
invariant-first_break-loop-act l = first_break l.co (acts_from l.acts l.act-index) ≡ first_break l.co (in_order (acts_of l.acts))

abbrev pub invariant-break_from-loop-arm : goal.invariant-break_from-loop-arm
invariant-break_from-loop-arm l = first_break l.co (arms_from l.arm-items l.arm-index (in_order (acts_of l.other.items))) ≡ first_break l.co (act_of l.act ∷ inside (act_of l.act))
