use Rattle.heyvl_print.proofs.procedures.print_pres.Given as goal
use Rattle.heyvl_print.specs.Canonical.{pre_line}
use Rattle.heyvl_print.specs.Pieces.{each, text_of}
use Rattle.heyvl_syntax.specs.Expressions.{expressions}
use Rattle.std.proofs.Common.{take, ◌++◌, ◌≡◌}

abbrev pub invariant-loop-pre : goal.invariant-loop-pre
invariant-loop-pre l = l.text.items ≡ l.fn.text.items ++ text_of (each pre_line (expressions (take l.pre-index l.pres)))
