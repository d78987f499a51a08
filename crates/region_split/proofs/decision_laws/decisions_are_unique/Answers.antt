use Rattle.region_split.proofs.UniqueDecisions.{decisions_unique}
use Rattle.region_split.proofs.decision_laws.decisions_are_unique.Goals as goal

pub returns : goal.returns
returns c = decisions_unique
