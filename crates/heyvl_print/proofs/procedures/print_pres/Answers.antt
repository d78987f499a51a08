use Rattle.heyvl_print.proofs.LineTexts.{pre_text}
use Rattle.heyvl_print.proofs.Texts.{each_done, item_next}
use Rattle.heyvl_print.proofs.procedures.print_pres.Goals as goal
use Rattle.heyvl_print.specs.Canonical.{pre_line}
use Rattle.heyvl_syntax.specs.Expressions.{expression}

pub loop-pre-preserved : goal.loop-pre-preserved
loop-pre-preserved c =
    item_next expression pre_line c.args.pres.now c.loop-pre.pre-index c.pre-item.result _ _ _ c.loop-pre-test.true c.pre-item.is c.loop-pre.invariant (pre_text (expression c.pre-item.result) _ _ c.in_ok-print_claim.ensures)

pub returns : goal.returns
returns c = each_done expression pre_line c.args.pres.now c.loop-pre.pre-index _ _ c.loop-pre-test.false c.loop-pre.invariant
