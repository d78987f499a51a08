use Rattle.std.proofs.Common.{◌≡◌, drop}
use Rattle.linear_elim.specs.Steps.{fits_each, joins}
use Rattle.linear_elim.specs.internal.Fingerprints.{ArePlaces}
use Rattle.linear_elim.specs.internal.GatheredRows.{found_all, rows_all}
use Rattle.linear_elim.proofs.steps.join_each.Given as goal

abbrev pub invariant-loop-up : goal.invariant-loop-up
invariant-loop-up l = record { fits : fits_each l.x l.low (drop l.up-index l.ups) ≡ fits_each l.fn.x l.fn.low l.fn.ups; found : found_all (joins l.x l.low (drop l.up-index l.ups)) l.out.found ≡ found_all (joins l.fn.x l.fn.low l.fn.ups) l.fn.out.found; rows : rows_all (joins l.x l.low (drop l.up-index l.ups)) l.out.rows.items ≡ rows_all (joins l.fn.x l.fn.low l.fn.ups) l.fn.out.rows.items; places : ArePlaces l.out.places l.out.rows.items }
