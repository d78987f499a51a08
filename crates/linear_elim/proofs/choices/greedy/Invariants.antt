use Rattle.std.proofs.Common.{List, length}
use Rattle.std.specs.List.{All}
use Rattle.linear_rows.specs.Row.{Row}
use Rattle.linear_elim.specs.internal.Picks.{IsDerivedStep}
use Rattle.linear_elim.specs.internal.Eliminations.{IsEliminated}
use Rattle.linear_elim.proofs.Greedily.{IsSofar}
use Rattle.linear_elim.proofs.choices.greedy.Given as goal

abbrev pub invariant-loop-step : goal.invariant-loop-step
invariant-loop-step l = record { derived : All IsDerivedStep l.rest; so_far : (rows : List Row) → IsEliminated rows l.vars l.steps → IsSofar rows l.vars l.steps l.rest l.chosen.items }

abbrev pub decreases-loop-step : goal.decreases-loop-step
decreases-loop-step l = length l.rest
