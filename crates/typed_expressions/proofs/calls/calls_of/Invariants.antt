use Rattle.heyvl_syntax.specs.Procedures.{procedure}
use Rattle.std.proofs.Common.{drop, map, ◌≡◌}
use Rattle.typed_expressions.proofs.calls.calls_of.Given as goal
use Rattle.typed_expressions.specs.Signatures.{called, with_signatures}

-- The next number is the index, and the procedures so far with the remaining ones are all.
abbrev pub invariant-loop-proc : goal.invariant-loop-proc
invariant-loop-proc l = record {
  number : l.number ≡ l.proc-index;
  called : with_signatures l.number l.calls (map procedure (drop l.proc-index l.proc-items)) ≡ called (map procedure l.proc-items);
}
