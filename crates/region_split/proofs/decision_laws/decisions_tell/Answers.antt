use Rattle.region_split.proofs.Meaning.{decision_tells}
use Rattle.region_split.proofs.decision_laws.decisions_tell.Goals as goal

pub returns : goal.returns
returns c = decision_tells
