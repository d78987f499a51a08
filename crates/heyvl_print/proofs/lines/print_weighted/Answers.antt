use Rattle.heyvl_print.proofs.LineTexts.{weighted_text}
use Rattle.heyvl_print.proofs.lines.print_weighted.Goals as goal
use Rattle.heyvl_syntax.specs.Expressions.{expression}

pub returns : goal.returns
returns c = weighted_text (expression c.args.weight.now) (expression c.args.value.now) _ _ _ _ c.in_ok-print_expression.ensures c.in_ok-write.ensures c.in_ok-print_expression-2.ensures
