use Rattle.heyvl_syntax.proofs.statements.copy_rules.Given as goal
use Rattle.heyvl_syntax.specs.Statements.{loop_rules}
use Rattle.std.proofs.Common.{take, ◌≡◌}

-- The copied elements are equal to the visited ones.
abbrev pub invariant-loop-rule : goal.invariant-loop-rule
invariant-loop-rule l = loop_rules l.copied.items ≡ loop_rules (take l.rule-index l.rules)
