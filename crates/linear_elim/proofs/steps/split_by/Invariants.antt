use Rattle.std.proofs.Common.{◌≡◌, []}
use Rattle.std.specs.Prelude.{None}
use Rattle.linear_elim.specs.Steps.{lowers, uppers, kept}
use Rattle.linear_elim.specs.internal.Fingerprints.{ArePlaces}
use Rattle.linear_elim.specs.internal.GatheredRows.{found_all, rows_all}
use Rattle.linear_elim.proofs.steps.split_by.Given as goal

abbrev pub invariant-loop-r : goal.invariant-loop-r
invariant-loop-r l = record { lows : l.lows.items ≡ lowers l.x l.yielded; ups : l.ups.items ≡ uppers l.x l.yielded; found : l.rest.found ≡ found_all (kept l.x l.yielded) None; rest : l.rest.rows.items ≡ rows_all (kept l.x l.yielded) []; places : ArePlaces l.rest.places l.rest.rows.items }
