use Rattle.heyvl_print.proofs.lines.print_parts.Given as goal
use Rattle.heyvl_print.specs.Canonical.{weighted_pieces}
use Rattle.heyvl_print.specs.Pieces.{comma, each, text_of}
use Rattle.heyvl_syntax.specs.Expressions.{Expression}
use Rattle.heyvl_syntax.specs.Statements.{choices}
use Rattle.std.proofs.Common.{take, ◌++◌, ◌≡◌}

-- The text after the first value holds the values visited so far.
abbrev pub invariant-loop-other : goal.invariant-loop-other
invariant-loop-other l = l.text.items ≡ l.initial.text.items ++ text_of (each (λ (x : Expression × Expression). comma ++ weighted_pieces x) (choices (take l.other-index l.others)))
