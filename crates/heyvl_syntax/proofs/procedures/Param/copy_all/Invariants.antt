use Rattle.heyvl_syntax.proofs.procedures.Param.copy_all.Given as goal
use Rattle.std.proofs.Common.{take, ◌≡◌}

-- The copied elements are equal to the visited ones.
abbrev pub invariant-loop-one : goal.invariant-loop-one
invariant-loop-one l = l.copied.items ≡ take l.one-index l.all
