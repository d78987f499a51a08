use Rattle.heyvl_print.proofs.LineTexts.{assign_text}
use Rattle.heyvl_print.proofs.lines.print_assign.Goals as goal
use Rattle.heyvl_print.specs.WithoutPlaces.{no_place}
use Rattle.heyvl_syntax.specs.Statements.{right_side}

pub returns : goal.returns
returns c = assign_text c.args.margin c.args.targets.now (right_side c.args.right.now) no_place _ _ _ _ _ c.in_ok-write_repeated.ensures c.in_ok-print_targets.ensures c.in_ok-print_right.ensures c.in_ok-write.ensures
