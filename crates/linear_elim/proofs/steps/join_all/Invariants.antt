use Rattle.std.proofs.Common.{◌≡◌, drop}
use Rattle.linear_elim.specs.Steps.{pairs_fit, pairs}
use Rattle.linear_elim.specs.internal.Fingerprints.{ArePlaces}
use Rattle.linear_elim.specs.internal.GatheredRows.{found_all, rows_all}
use Rattle.linear_elim.proofs.steps.join_all.Given as goal

abbrev pub invariant-loop-low : goal.invariant-loop-low
invariant-loop-low l = record { fits : pairs_fit l.x (drop l.low-index l.lows) l.ups ≡ pairs_fit l.fn.x l.fn.lows l.fn.ups; found : found_all (pairs l.x (drop l.low-index l.lows) l.ups) l.out.found ≡ found_all (pairs l.fn.x l.fn.lows l.fn.ups) l.fn.out.found; rows : rows_all (pairs l.x (drop l.low-index l.lows) l.ups) l.out.rows.items ≡ rows_all (pairs l.fn.x l.fn.lows l.fn.ups) l.fn.out.rows.items; places : ArePlaces l.out.places l.out.rows.items }
