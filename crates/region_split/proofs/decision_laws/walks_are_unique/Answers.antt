use Rattle.region_split.proofs.UniqueWalks.{cells_unique, before_unique}
use Rattle.region_split.proofs.decision_laws.walks_are_unique.Goals as goal

pub returns : goal.returns
returns c = record { cells = cells_unique; before = before_unique }
