use Rattle.heyvl_syntax.specs.Statements.{loop_rules}
use Rattle.typed_right_sides.proofs.loop_rules.any_step_wrong.Given as goal
use Rattle.static_rules.specs.LoopRules.{step_wrong}
use Rattle.std.proofs.Common.{drop, ◌≡◌}
use Rattle.std.specs.List.{list_any}

abbrev pub invariant-loop-rule : goal.invariant-loop-rule
invariant-loop-rule l = list_any step_wrong (loop_rules l.rules) ≡ list_any step_wrong (loop_rules (drop l.rule-index l.rules))
