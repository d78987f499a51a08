use Rattle.heyvl_print.proofs.Texts.{after_comma, item_next, separated_done}
use Rattle.heyvl_print.proofs.expressions.print_expressions.Goals as goal
use Rattle.heyvl_print.specs.Canonical.{expression_pieces}
use Rattle.heyvl_print.specs.Pieces.{comma}
use Rattle.heyvl_syntax.specs.Expressions.{Expression, expression}
use Rattle.std.proofs.Common.{◌++◌}

pub loop-other-preserved : goal.loop-other-preserved
loop-other-preserved c =
    item_next expression (λ (x : Expression). comma ++ expression_pieces x) c.in-Some.others.now c.loop-other.other-index c.other-item.result _ _ _ c.loop-other-test.true c.other-item.is c.loop-other.invariant (after_comma (expression_pieces (expression c.other-item.result)) _ _ _ c.in_ok-write.ensures c.in_ok-print_expression-2.ensures)

pub returns : goal.returns
returns c = separated_done expression comma expression_pieces c.in-Some.first.now c.in-Some.others.now c.args.all.now c.loop-other.other-index _ _ _ c.in-Some.ensures.cases.0 c.loop-other-test.false c.in_ok-print_expression.ensures c.loop-other.invariant
