use Rattle.std.proofs.Common.{◌≡◌}
use Rattle.std.specs.Option.{option_or}
use Rattle.std.specs.Vec.Iter.{into_iter_items}
use Rattle.verify_core.specs.Outcomes.{first_with, is_falsified, is_open}
use Rattle.verify_core.proofs.outcomes.told.Given as goal

-- The first goals so far, or else the first ones among the goals that are left, are those of all
-- goals.
abbrev pub invariant-loop-one : goal.invariant-loop-one
invariant-loop-one l = record {
  falsified : option_or l.falsified (first_with is_falsified (into_iter_items l.one-iterator)) ≡ first_with is_falsified l.fn.row.items;
  still_open : option_or l.open (first_with is_open (into_iter_items l.one-iterator)) ≡ first_with is_open l.fn.row.items;
}
