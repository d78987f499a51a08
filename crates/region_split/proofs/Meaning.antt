-- The meaning of a decision for the states of its goal.
use Rattle.region_split.specs.DecisionLaws.{DecisionsTell}
use Rattle.goal_answers.specs.declared.decisions.Decision.TheVariants.{Proved, Falsified, Unknown}
use Rattle.region_split.proofs.ProvedGoals.{proved_holds}
use Rattle.region_split.proofs.FalsifiedGoals.{falsified_fails}

pub decision_tells : DecisionsTell
decision_tells g (Proved t) w v d = proved_holds g t w d.0 d.1
decision_tells g (Falsified point) w v d = falsified_fails g point.items w v d.1
decision_tells g (Unknown cause) w v d = tt
