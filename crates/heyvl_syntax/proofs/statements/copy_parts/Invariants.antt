use Rattle.heyvl_syntax.proofs.statements.copy_parts.Given as goal
use Rattle.heyvl_syntax.specs.Statements.{choices}
use Rattle.std.proofs.Common.{take, ◌≡◌}

-- The copied elements are equal to the visited ones.
abbrev pub invariant-loop-weight : goal.invariant-loop-weight
invariant-loop-weight l = choices l.copied.items ≡ choices (take l.weight-index l.parts)
