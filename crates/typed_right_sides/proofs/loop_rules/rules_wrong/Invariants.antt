use Rattle.heyvl_syntax.specs.Statements.{loop_rules}
use Rattle.typed_right_sides.proofs.loop_rules.rules_wrong.Given as goal
use Rattle.static_rules.specs.LoopRules.{count_of_invariants, count_of_rankings}
use Rattle.std.proofs.Common.{drop, ◌+◌, ◌≡◌}

-- The numbers counted so far and those of the remaining rules are those of all.
abbrev pub invariant-loop-rule : goal.invariant-loop-rule
invariant-loop-rule l = record {
  invariants : count_of_invariants (loop_rules l.rules) ≡ l.invariants + count_of_invariants (loop_rules (drop l.rule-index l.rules));
  rankings : count_of_rankings (loop_rules l.rules) ≡ l.rankings + count_of_rankings (loop_rules (drop l.rule-index l.rules));
  few : l.invariants + l.rankings ≡ l.rule-index;
}
