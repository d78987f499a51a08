use Rattle.heyvl_print.proofs.LineTexts.{havoc_text}
use Rattle.heyvl_print.proofs.lines.print_havoc.Goals as goal
use Rattle.heyvl_print.specs.WithoutPlaces.{no_place}

pub returns : goal.returns
returns c =
    let k = rw c.havoc_text.ensures at c.in_ok-write.ensures in
    havoc_text c.args.margin c.args.co c.args.names.now no_place _ _ _ _ _ _ c.in_ok-write_repeated.ensures k c.in_ok-write-2.ensures c.in_ok-print_names.ensures c.in_ok-write-3.ensures
