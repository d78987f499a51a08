use Rattle.std.proofs.Common.{◌≡◌, drop, []}
use Rattle.std.specs.Prelude.{None}
use Rattle.linear_elim.specs.internal.Fingerprints.{ArePlaces}
use Rattle.linear_elim.specs.Elimination.{start}
use Rattle.linear_elim.specs.internal.GatheredRows.{found_all, rows_all}
use Rattle.linear_elim.proofs.starts.first_rows.Given as goal

abbrev pub invariant-loop-i : goal.invariant-loop-i
invariant-loop-i l = record { found : found_all (start l.i (drop l.i l.rows)) l.out.found ≡ found_all (start 0 l.fn.rows) None; rows : rows_all (start l.i (drop l.i l.rows)) l.out.rows.items ≡ rows_all (start 0 l.fn.rows) []; places : ArePlaces l.out.places l.out.rows.items }
