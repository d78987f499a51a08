use Rattle.std.proofs.Common.{◌≡◌, take}
use Rattle.region_split.specs.internal.MovedRows.{place_of, moved_all}
use Rattle.region_split.proofs.moved_multipliers.moved.Given as goal

abbrev pub invariant-loop-index : goal.invariant-loop-index
invariant-loop-index l = l.out.items ≡ moved_all (place_of l.kept l.places) (take l.index-index l.multipliers)
