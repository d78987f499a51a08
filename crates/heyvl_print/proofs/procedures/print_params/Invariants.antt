use Rattle.heyvl_print.proofs.procedures.print_params.Given as goal
use Rattle.heyvl_print.specs.Canonical.{param_pieces}
use Rattle.heyvl_print.specs.Pieces.{comma, each, text_of}
use Rattle.heyvl_syntax.specs.declared.procedures.Param.{Param}
use Rattle.std.proofs.Common.{take, ◌++◌, ◌≡◌}

-- The text after the first parameter holds the parameters visited so far.
abbrev pub invariant-loop-other : goal.invariant-loop-other
invariant-loop-other l = l.text.items ≡ l.initial.text.items ++ text_of (each (λ (x : Param). comma ++ param_pieces x) ((take l.other-index l.others)))
