use Rattle.std.proofs.Common.{◌≡◌, length, map}
use Rattle.std.specs.Prelude.{take}
use Rattle.std.specs.Rc.{rc_value}
use Rattle.linear_form.specs.internal.GoalParts.{AreParts}
use Rattle.linear_form.proofs.ready_parts.parts_of.Given as goal

abbrev pub invariant-loop-i : goal.invariant-loop-i
invariant-loop-i l = record { made : AreParts (take l.i l.fn.graph) (map rc_value l.parts.items); long : length l.parts.items ≡ l.i }
