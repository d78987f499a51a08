use Rattle.heyvl_print.proofs.LineTexts.{choose_text, flip_text, unif_text}
use Rattle.heyvl_print.proofs.lines.print_right.Goals as goal
use Rattle.heyvl_syntax.specs.Expressions.{expression}
use Rattle.heyvl_syntax.specs.Statements.{choices}

pub returns-in_ok-write-in-Flip-2 : goal.returns-in_ok-write-in-Flip-2
returns-in_ok-write-in-Flip-2 c = rw c.in-Flip.is (flip_text (expression c.in-Flip.probability) _ _ _ _ c.in_ok-write-in-Flip.ensures c.in_ok-print_expression-in-Flip.ensures c.in_ok-write-in-Flip-2.ensures)

pub returns-in_ok-write-in-Unif-3 : goal.returns-in_ok-write-in-Unif-3
returns-in_ok-write-in-Unif-3 c = rw c.in-Unif.is (unif_text (expression c.in-Unif.low) (expression c.in-Unif.high) _ _ _ _ _ _ c.in_ok-write-in-Unif.ensures c.in_ok-print_expression-in-Unif.ensures c.in_ok-write-in-Unif-2.ensures c.in_ok-print_expression-in-Unif-2.ensures c.in_ok-write-in-Unif-3.ensures)

pub returns-in_ok-write-in-Choose-2 : goal.returns-in_ok-write-in-Choose-2
returns-in_ok-write-in-Choose-2 c =
    let parts = rw c.deref.ensures.value at c.in_ok-print_parts-in-Choose.ensures in
    rw c.in-Choose.is (choose_text (choices c.in-Choose.parts.items) _ _ _ _ c.in_ok-write-in-Choose.ensures parts c.in_ok-write-in-Choose-2.ensures)
