use Rattle.heyvl_types.proofs.LastElement.{FreeBehind, binds_arm}
use Rattle.heyvl_types.proofs.bindings.binding_arms.Given as goal
use Rattle.std.proofs.Common.{length}

-- No arm after `rest` binds.
abbrev pub invariant-loop-last : goal.invariant-loop-last
invariant-loop-last l = FreeBehind binds_arm l.all l.rest

abbrev pub decreases-loop-last : goal.decreases-loop-last
decreases-loop-last l = length l.rest
