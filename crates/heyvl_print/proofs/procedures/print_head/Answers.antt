use Rattle.heyvl_print.proofs.ProcedureTexts.{head_text}
use Rattle.heyvl_print.proofs.procedures.print_head.Goals as goal
use Rattle.heyvl_syntax.specs.Procedures.{procedure}

pub returns : goal.returns
returns c =
    let k = rw c.procedure_text.ensures at c.in_ok-write.ensures in
    let x = rw c.as_bytes.ensures at c.in_ok-write-3.ensures in
    let i = rw c.deref.ensures.value at c.in_ok-print_params.ensures in
    let o = rw c.deref-2.ensures.value at c.in_ok-print_params-2.ensures in
    head_text (procedure c.args.printed.now) _ _ _ _ _ _ _ _ _ k c.in_ok-write-2.ensures x c.in_ok-write-4.ensures i c.in_ok-write-5.ensures o c.in_ok-write-6.ensures
