use Rattle.std.proofs.Common.{take, []}
use Rattle.linear_elim.specs.internal.CountedRows.{terms_at, puts, all_terms, IsTable}
use Rattle.linear_elim.proofs.join_counts.count_kept.Given as goal

abbrev pub invariant-loop-k : goal.invariant-loop-k
invariant-loop-k l = IsTable (terms_at l.step l.kept) l.table (puts (all_terms (take l.k l.kept)) [])
