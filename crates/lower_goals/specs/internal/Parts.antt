-- The ranking of a loop as the program borrows it.
use Rattle.std.specs.Prelude.{◌≡◌, Option, Some, None}
use Rattle.heylo_formula.specs.PlainTrees.{form_of}
use Rattle.heyvl_acts.specs.PlainActs.{rank_of}
use Rattle.lower_goals.specs.declared.remainder_pairs.RankedParts.{RankedParts}
use Rattle.lower_goals.specs.declared.shapes.LoopParts.{LoopParts}

-- The result is the parts of the loop with its ranking; it is nothing if the loop has no ranking.
abbrev pub IsRankedAs : LoopParts → Option RankedParts → Type 0
IsRankedAs l (Some parts) = (parts.front.now ≡ l.front.now)
    × ((parts.number ≡ l.one.now.number)
    × (rank_of l.one.now.rank ≡ Some (parts.step, form_of parts.ranking.now)))
IsRankedAs l None = rank_of l.one.now.rank ≡ None
