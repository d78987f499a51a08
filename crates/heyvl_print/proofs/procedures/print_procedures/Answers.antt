use Rattle.heyvl_print.proofs.Texts.{after, item_next, separated_done}
use Rattle.heyvl_print.proofs.procedures.print_procedures.Goals as goal
use Rattle.heyvl_print.specs.Canonical.{procedure_lines}
use Rattle.heyvl_print.specs.Pieces.{feed, ◌then◌}
use Rattle.heyvl_syntax.specs.Procedures.{Procedure, procedure}

pub loop-other-preserved : goal.loop-other-preserved
loop-other-preserved c =
    item_next procedure (λ (x : Procedure). feed then procedure_lines x) c.in-Some.others.now c.loop-other.other-index c.other-item.result _ _ _ c.loop-other-test.true c.other-item.is c.loop-other.invariant (after feed (procedure_lines (procedure c.other-item.result)) _ _ _ c.in_ok-write.ensures c.in_ok-print_procedure-2.ensures)

pub returns : goal.returns
returns c = separated_done procedure feed procedure_lines c.in-Some.first.now c.in-Some.others.now c.args.all.now c.loop-other.other-index _ _ _ c.in-Some.ensures.cases.0 c.loop-other-test.false c.in_ok-print_procedure.ensures c.loop-other.invariant
