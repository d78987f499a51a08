use Rattle.heyvl_syntax.specs.Statements.{loop_rules}
use Rattle.typed_right_sides.proofs.loop_rules.any_over_zero.Given as goal
use Rattle.static_rules.specs.LoopRules.{steps_over_zero}
use Rattle.std.proofs.Common.{drop, ◌≡◌}
use Rattle.std.specs.List.{list_any}

abbrev pub invariant-loop-rule : goal.invariant-loop-rule
invariant-loop-rule l = list_any steps_over_zero (loop_rules l.rules) ≡ list_any steps_over_zero (loop_rules (drop l.rule-index l.rules))
