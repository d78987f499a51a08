use Rattle.region_split.proofs.ProvedWalks.{proved_walk}
use Rattle.region_split.proofs.walk.decided.Goals as goal

pub returns-in-Nothing : goal.returns-in-Nothing
returns-in-Nothing c g all n f l b = proved_walk g all c.args.tree n (rw c.in-Nothing.is at f) l b
