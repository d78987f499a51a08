use Rattle.heyvl_print.proofs.LineTexts.{var_text}
use Rattle.heyvl_print.proofs.lines.print_var.Goals as goal
use Rattle.heyvl_print.specs.WithoutPlaces.{no_place}
use Rattle.heyvl_syntax.specs.Statements.{optional_right}

pub returns : goal.returns
returns c =
    let x = rw c.as_bytes.ensures at c.in_ok-write-2.ensures in
    let ty = rw c.type_text.ensures at c.in_ok-write-4.ensures in
    var_text c.args.margin c.args.name.now c.args.ty (optional_right c.args.given.now) no_place _ _ _ _ _ _ _ _ c.in_ok-write_repeated.ensures c.in_ok-write.ensures x c.in_ok-write-3.ensures ty c.in_ok-print_given.ensures c.in_ok-write-5.ensures
