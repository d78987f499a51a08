use Rattle.heyvl_print.proofs.bytes.write_repeated.Given as goal
use Rattle.std.proofs.Common.{replicate, ◌++◌, ◌≡◌}

abbrev pub invariant-loop-written : goal.invariant-loop-written
invariant-loop-written l = l.text.items ≡ l.fn.text.items ++ replicate l.written l.byte
