use Rattle.heyvl_print.proofs.Texts.{after_comma, item_next, separated_done}
use Rattle.heyvl_print.proofs.lines.print_parts.Goals as goal
use Rattle.heyvl_print.specs.Canonical.{weighted_pieces}
use Rattle.heyvl_print.specs.Pieces.{comma}
use Rattle.heyvl_syntax.specs.Expressions.{Expression, expression}
use Rattle.heyvl_syntax.specs.declared.expressions.Expr.{Expr}
use Rattle.std.proofs.Common.{◌++◌}

plain : Expr × Expr → Expression × Expression
plain part = (expression part.0, expression part.1)

pub loop-other-preserved : goal.loop-other-preserved
unfolding plain
loop-other-preserved c =
    item_next plain (λ (x : Expression × Expression). comma ++ weighted_pieces x) c.in-Some.others.now c.loop-other.other-index c.other-item.result _ _ _ c.loop-other-test.true c.other-item.is c.loop-other.invariant (after_comma (weighted_pieces (plain c.other-item.result)) _ _ _ c.in_ok-write.ensures c.in_ok-print_weighted-2.ensures)

pub returns : goal.returns
unfolding plain
returns c = separated_done plain comma weighted_pieces c.in-Some.first.now c.in-Some.others.now c.args.parts.now c.loop-other.other-index _ _ _ c.in-Some.ensures.cases.0 c.loop-other-test.false c.in_ok-print_weighted.ensures c.loop-other.invariant
