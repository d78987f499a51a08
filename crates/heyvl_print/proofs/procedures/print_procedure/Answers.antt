use Rattle.heyvl_print.proofs.ProcedureTexts.{procedure_text}
use Rattle.heyvl_print.proofs.procedures.print_procedure.Goals as goal
use Rattle.heyvl_syntax.specs.Procedures.{procedure}

pub returns : goal.returns
returns c =
    let a = rw c.deref.ensures.value at c.in_ok-print_pres.ensures in
    let b = rw c.deref-2.ensures.value at c.in_ok-print_posts.ensures in
    procedure_text (procedure c.args.printed.now) _ _ _ _ _ _ c.in_ok-print_note.ensures c.in_ok-print_head.ensures a b c.in_ok-print_body.ensures
