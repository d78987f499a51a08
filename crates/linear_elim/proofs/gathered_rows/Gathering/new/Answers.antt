use Rattle.std.proofs.Common.{subst, sym}
use Rattle.linear_elim.specs.internal.Fingerprints.{ArePlaces}
use Rattle.linear_elim.proofs.FingerprintSearch.{no_places}
use Rattle.linear_elim.proofs.gathered_rows.Gathering.new.Goals as goal

pub returns-clause-places : goal.returns-clause-places
returns-clause-places c = subst (ArePlaces c.new-2.result) (sym c.new.ensures.items) (no_places c.new-2.result c.new-2.ensures.empty)
