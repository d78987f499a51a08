use Rattle.region_split.proofs.Leaves.{same_split}
use Rattle.region_split.proofs.growth.split.Goals as goal

pub returns : goal.returns
returns c = same_split c.in_ok-first.first c.in_ok-second.second c.args.left c.args.right c.in_ok-first.ensures.ok c.in_ok-second.ensures.ok
