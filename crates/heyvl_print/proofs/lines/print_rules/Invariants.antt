use Rattle.heyvl_print.proofs.lines.print_rules.Given as goal
use Rattle.heyvl_print.specs.Canonical.{rule_line}
use Rattle.heyvl_print.specs.Pieces.{each, text_of}
use Rattle.heyvl_syntax.specs.Statements.{loop_rules}
use Rattle.std.proofs.Common.{take, ◌++◌, ◌≡◌}

abbrev pub invariant-loop-rule : goal.invariant-loop-rule
invariant-loop-rule l = l.text.items ≡ l.fn.text.items ++ text_of (each (rule_line l.margin) (loop_rules (take l.rule-index l.rules)))
