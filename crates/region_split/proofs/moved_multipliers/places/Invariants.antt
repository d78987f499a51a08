use Rattle.std.proofs.Common.{◌-◌, length}
use Rattle.region_split.specs.internal.MovedRows.{ArePlacesSoFar}
use Rattle.region_split.proofs.moved_multipliers.places.Given as goal

abbrev pub invariant-others : goal.invariant-others
invariant-others l = ArePlacesSoFar l.from l.rows l.more l.places.items l.at

abbrev pub decreases-others : goal.decreases-others
decreases-others l = length l.more - l.at
