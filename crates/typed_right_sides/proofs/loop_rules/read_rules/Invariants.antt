use Rattle.heyvl_syntax.specs.Statements.{loop_rules}
use Rattle.typed_right_sides.proofs.loop_rules.read_rules.Given as goal
use Rattle.static_rules.specs.LoopRules.{rules_findings}
use Rattle.typed_right_sides.specs.LoopHeads.{found_with, rules_found}
use Rattle.std.proofs.Common.{drop, ◌≡◌}

-- The rules so far and the remaining ones have the result of all rules.
abbrev pub invariant-loop-rule : goal.invariant-loop-rule
invariant-loop-rule l = (rules_findings l.next l.scope (loop_rules l.rules) ≡ rules_findings l.next l.scope (loop_rules (drop l.rule-index l.rules))) × (rules_found l.next l.scope (loop_rules l.rules) ≡ found_with l.found l.next l.scope (loop_rules (drop l.rule-index l.rules)))
