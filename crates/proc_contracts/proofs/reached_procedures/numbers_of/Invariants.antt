use Rattle.std.proofs.Common.{◌≡◌, ◌++◌, drop}
use Rattle.proc_contracts.specs.internal.MarkedNumbers.{marked}
use Rattle.proc_contracts.proofs.reached_procedures.numbers_of.Given as goal

-- The numbers found so far and the marked ones among the rest are all marked numbers.
abbrev pub invariant-loop-mark : goal.invariant-loop-mark
invariant-loop-mark l = record {
  counted : l.number ≡ l.mark-index;
  found : l.found.items ++ marked l.number (drop l.mark-index l.marks) ≡ marked 0 l.marks;
}
