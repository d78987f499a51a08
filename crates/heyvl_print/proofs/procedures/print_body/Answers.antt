use Rattle.heyvl_print.proofs.ProcedureTexts.{body_text}
use Rattle.heyvl_print.proofs.procedures.print_body.Goals as goal
use Rattle.heyvl_syntax.specs.Statements.{block}

pub returns-in_ok-write-in-Some-2 : goal.returns-in_ok-write-in-Some-2
returns-in_ok-write-in-Some-2 c =
    let b = rw c.deref.ensures.value at c.in_ok-print_block-in-Some.ensures in
    rw c.in-Some.is (body_text (block c.in-Some.statements.items) _ _ _ _ c.in_ok-write-in-Some.ensures b c.in_ok-write-in-Some-2.ensures)
