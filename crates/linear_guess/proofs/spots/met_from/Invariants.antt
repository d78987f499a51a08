use Rattle.std.specs.Prelude.{take}
use Rattle.linear_guess.specs.Spots.{AreMetBy}
use Rattle.linear_guess.proofs.spots.met_from.Given as goal

abbrev pub invariant-loop-i : goal.invariant-loop-i
invariant-loop-i l = AreMetBy l.fn.spot.below l.fn.spot.tops.items (take l.fn.from l.fn.rows) → AreMetBy l.fn.spot.below l.fn.spot.tops.items (take l.i l.fn.rows)
