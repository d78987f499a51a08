use Rattle.std.proofs.Common.{refl}
use Rattle.heylo_formula.specs.Goals.{goal_of}
use Rattle.region_split.proofs.Steps.{start_walk}
use Rattle.region_split.proofs.walk.walked.Goals as goal

pub walk-init : goal.walk-init
walk-init c = let s = c.in_ok-start.ensures in start_walk (goal_of c.args.goal.now) _ s.0 s.1 c.new.ensures.items refl refl
