use Rattle.heyvl_types.proofs.LastElement.{FreeBehind, binds_one}
use Rattle.heyvl_types.proofs.bindings.binding_statements.Given as goal
use Rattle.std.proofs.Common.{length}

-- No statement after `rest` binds.
abbrev pub invariant-loop-last : goal.invariant-loop-last
invariant-loop-last l = FreeBehind binds_one l.statements l.rest

abbrev pub decreases-loop-last : goal.decreases-loop-last
decreases-loop-last l = length l.rest
