use Rattle.region_split.proofs.PieceSteps.{splits_narrow}
use Rattle.region_split.proofs.decision_laws.splits_are_narrow.Goals as goal

pub returns : goal.returns
returns c = splits_narrow
