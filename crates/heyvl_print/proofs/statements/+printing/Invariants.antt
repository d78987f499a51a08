use Rattle.heyvl_print.proofs.statements.+printing.Given as goal
use Rattle.heyvl_print.specs.Canonical.{block_lines, else_if_pieces}
use Rattle.heyvl_print.specs.Pieces.{text_of}
use Rattle.heyvl_syntax.specs.Statements.{arms, block}
use Rattle.std.proofs.Common.{take, ◌++◌, ◌≡◌}

-- The text after the first arm holds the arms visited so far.
abbrev pub invariant-print_arms-loop-other : goal.invariant-print_arms-loop-other
invariant-print_arms-loop-other l = l.text.items ≡ l.initial.text.items ++ text_of (else_if_pieces l.margin (arms (take l.other-index l.others)))

abbrev pub invariant-print_block-loop-one : goal.invariant-print_block-loop-one
invariant-print_block-loop-one l = l.text.items ≡ l.fn.text.items ++ text_of (block_lines l.margin (block (take l.one-index l.statements)))
