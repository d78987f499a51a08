use Rattle.std.proofs.Common.{◌≡◌, length, take}
use Rattle.proc_contracts.specs.internal.MarkedNumbers.{AreMarked, Grew}
use Rattle.proc_contracts.proofs.reached_procedures.add_new.Given as goal

-- The clauses of `add_new` hold for the numbers so far.
abbrev pub invariant-loop-q : goal.invariant-loop-q
invariant-loop-q l = record {
  marked : AreMarked l.marks.items l.order.items;
  sized : length l.marks.items ≡ length l.initial.marks.items;
  grew : Grew l.initial.order.items l.order.items (take l.q-index l.all);
}
