use Rattle.heyvl_print.proofs.lines.print_names.Given as goal
use Rattle.heyvl_print.specs.Pieces.{comma, each, text_of, word}
use Rattle.std.proofs.Common.{List, take, ◌++◌, ◌≡◌, ℕ}

-- The text after the first name holds the names visited so far.
abbrev pub invariant-loop-other : goal.invariant-loop-other
invariant-loop-other l = l.text.items ≡ l.initial.text.items ++ text_of (each (λ (x : List ℕ). comma ++ word x) (take l.other-index l.others))
