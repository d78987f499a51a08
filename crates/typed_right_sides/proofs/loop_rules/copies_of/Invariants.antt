use Rattle.heyvl_syntax.specs.Statements.{loop_rules}
use Rattle.typed_right_sides.proofs.loop_rules.copies_of.Given as goal
use Rattle.static_rules.specs.StatementActs.{copies_of}
use Rattle.std.proofs.Common.{drop, ◌≡◌}

abbrev pub invariant-loop-rule : goal.invariant-loop-rule
invariant-loop-rule l = copies_of (loop_rules l.rules) ≡ copies_of (loop_rules (drop l.rule-index l.rules))
