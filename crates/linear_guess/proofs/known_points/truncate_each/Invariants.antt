use Rattle.std.specs.Prelude.{◌≡◌, List, length, take}
use Rattle.std.specs.List.{All, AllWithin}
use Rattle.linear_rows.specs.Row.{Row}
use Rattle.linear_guess.specs.Searches.{IsKnown}
use Rattle.linear_guess.proofs.known_points.truncate_each.Given as goal

abbrev pub invariant-loop-i : goal.invariant-loop-i
invariant-loop-i l = (before after : List Row) → All (IsKnown before) l.fn.points → take l.len before ≡ take l.len after → AllWithin (IsKnown after) l.points 0 l.i × AllWithin (IsKnown before) l.points l.i (length l.points)
