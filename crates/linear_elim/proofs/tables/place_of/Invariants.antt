use Rattle.std.proofs.Common.{ℕ, ◌<◌, ◌≤◌}
use Rattle.linear_elim.specs.internal.CountedRows.{terms_at, home, IsOther}
use Rattle.linear_elim.specs.internal.Fingerprints.{fingerprint}
use Rattle.linear_elim.proofs.tables.place_of.Given as goal

abbrev pub invariant-loop-place : goal.invariant-loop-place
invariant-loop-place l = (j : ℕ) → home l.table.places (fingerprint (terms_at l.step l.kept l.name)) ≤ j → j < l.place → IsOther (terms_at l.step l.kept) l.prints l.names (terms_at l.step l.kept l.name) j
