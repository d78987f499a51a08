use Rattle.heyvl_syntax.proofs.procedures.Proc.copy_all.Given as goal
use Rattle.heyvl_syntax.specs.Procedures.{procedure}
use Rattle.std.proofs.Common.{map, take, ◌≡◌}

-- The copied elements are equal to the visited ones.
abbrev pub invariant-loop-one : goal.invariant-loop-one
invariant-loop-one l = map procedure l.copied.items ≡ map procedure (take l.one-index l.all)
