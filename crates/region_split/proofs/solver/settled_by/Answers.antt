use Rattle.region_split.proofs.PathAnswers.{met_by_point, met_by_break}
use Rattle.region_split.proofs.solver.settled_by.Goals as goal

pub returns-in-Point : goal.returns-in-Point
returns-in-Point c g ps denied h = met_by_point g ps denied _ (rw c.in-Point.is at h)

pub returns-in-Break : goal.returns-in-Break
returns-in-Break c g ps denied h = met_by_break g ps denied _ (rw c.in-Break.is at h)
