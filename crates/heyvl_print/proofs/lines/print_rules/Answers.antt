use Rattle.heyvl_print.proofs.LineTexts.{rule_text}
use Rattle.heyvl_print.proofs.Texts.{each_done, item_next}
use Rattle.heyvl_print.proofs.lines.print_rules.Goals as goal
use Rattle.heyvl_print.specs.Canonical.{rule_line}
use Rattle.heyvl_syntax.specs.Statements.{loop_rule}

pub loop-rule-preserved : goal.loop-rule-preserved
loop-rule-preserved c =
    item_next loop_rule (rule_line c.args.margin) c.args.rules.now c.loop-rule.rule-index c.rule-item.result _ _ _ c.loop-rule-test.true c.rule-item.is c.loop-rule.invariant (rule_text c.args.margin (loop_rule c.rule-item.result) _ _ _ _ c.in_ok-write_repeated.ensures c.in_ok-print_rule.ensures c.in_ok-write.ensures)

pub returns : goal.returns
returns c = each_done loop_rule (rule_line c.args.margin) c.args.rules.now c.loop-rule.rule-index _ _ c.loop-rule-test.false c.loop-rule.invariant
