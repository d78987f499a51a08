use Rattle.region_split.proofs.ProvedGoals.{tree_certifies}
use Rattle.region_split.proofs.UniqueWalks.{trees_alike, depth_unique}
use Rattle.region_split.proofs.decision_laws.walk_trees_certify.Goals as goal

pub returns : goal.returns
returns c = record { certify = tree_certifies; alike = trees_alike; depth = depth_unique }
