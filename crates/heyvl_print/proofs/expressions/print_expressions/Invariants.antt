use Rattle.heyvl_print.proofs.expressions.print_expressions.Given as goal
use Rattle.heyvl_print.specs.Canonical.{expression_pieces}
use Rattle.heyvl_print.specs.Pieces.{comma, each, text_of}
use Rattle.heyvl_syntax.specs.Expressions.{Expression, expressions}
use Rattle.std.proofs.Common.{take, ◌++◌, ◌≡◌}

-- The text after the first expression holds the expressions visited so far.
abbrev pub invariant-loop-other : goal.invariant-loop-other
invariant-loop-other l = l.text.items ≡ l.initial.text.items ++ text_of (each (λ (x : Expression). comma ++ expression_pieces x) (expressions (take l.other-index l.others)))
