use Rattle.heyvl_print.proofs.LineTexts.{call_text}
use Rattle.heyvl_print.proofs.lines.print_call.Goals as goal
use Rattle.heyvl_syntax.specs.Expressions.{expressions}

pub returns : goal.returns
returns c =
    let x = rw c.as_bytes.ensures at c.in_ok-write.ensures in
    call_text c.args.name.now (expressions c.args.arguments.now) _ _ _ _ _ x c.in_ok-write-2.ensures c.in_ok-print_expressions.ensures c.in_ok-write-3.ensures
