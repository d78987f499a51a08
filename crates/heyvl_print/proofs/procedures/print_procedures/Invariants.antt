use Rattle.heyvl_print.proofs.procedures.print_procedures.Given as goal
use Rattle.heyvl_print.specs.Canonical.{procedure_lines}
use Rattle.heyvl_print.specs.Pieces.{each, feed, text_of, ◌then◌}
use Rattle.heyvl_syntax.specs.Procedures.{Procedure, procedure}
use Rattle.std.proofs.Common.{map, take, ◌++◌, ◌≡◌}

-- The text after the first procedure holds the procedures visited so far.
abbrev pub invariant-loop-other : goal.invariant-loop-other
invariant-loop-other l = l.text.items ≡ l.initial.text.items ++ text_of (each (λ (x : Procedure). feed then procedure_lines x) (map procedure (take l.other-index l.others)))
