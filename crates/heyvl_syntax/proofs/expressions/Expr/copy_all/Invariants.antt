use Rattle.heyvl_syntax.proofs.expressions.Expr.copy_all.Given as goal
use Rattle.heyvl_syntax.specs.Expressions.{expressions}
use Rattle.std.proofs.Common.{take, ◌≡◌}

-- The copied elements are equal to the visited ones.
abbrev pub invariant-loop-one : goal.invariant-loop-one
invariant-loop-one l = expressions l.copied.items ≡ expressions (take l.one-index l.all)
