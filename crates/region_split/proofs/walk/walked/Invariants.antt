use Rattle.heylo_formula.specs.Goals.{goal_of}
use Rattle.region_split.specs.internal.Progress.{IsAt, left_after}
use Rattle.region_split.proofs.walk.walked.Given as goal

abbrev pub invariant-walk : goal.invariant-walk
invariant-walk l = IsAt (goal_of l.goal) l.walk l.step

abbrev pub decreases-walk : goal.decreases-walk
decreases-walk l = left_after (goal_of l.goal) l.walk l.step
