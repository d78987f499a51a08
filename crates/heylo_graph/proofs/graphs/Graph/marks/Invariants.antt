use Rattle.std.proofs.Common.{◌≡◌, length}
use Rattle.heylo_graph.specs.internal.Tables.{AreMarked}
use Rattle.heylo_graph.proofs.graphs.Graph.marks.Given as goal

abbrev pub invariant-loop-i : goal.invariant-loop-i
invariant-loop-i l = record { count : length l.table.items ≡ l.i; marked : AreMarked l.fn.binders l.fn.var l.fn.self l.table.items }
