use Rattle.goal_answers.specs.Trees.{tree_of}
use Rattle.region_split.proofs.Leaves.{deep_first, deep_right, grown_split}
use Rattle.region_split.proofs.growth.joined.Goals as goal

pub returns-in-None : goal.returns-in-None
returns-in-None c g ps q h x y = deep_first g ps q c.args.right h (rw c.in-None.is at x) y

pub returns-in-None-right : goal.returns-in-None-right
returns-in-None-right c g ps q h x y = let a = rw c.in-Some.is at x in deep_right g ps q (tree_of c.in-Some.first) h a.is_tree (rw c.in-None-right.is at y)

pub returns-in_ok-split-in-Some-right : goal.returns-in_ok-split-in-Some-right
returns-in_ok-split-in-Some-right c g ps q h x y = grown_split g ps q c.in-Some.first c.in-Some-right.second c.in_ok-split-in-Some-right.field-0 h (rw c.in-Some.is at x) (rw c.in-Some-right.is at y) c.in_ok-split-in-Some-right.ensures
