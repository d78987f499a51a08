use Rattle.goal_answers.specs.Trees.{tree_of}
use Rattle.region_split.proofs.Leaves.{grown_halves, piece_first, piece_right}
use Rattle.region_split.proofs.growth.joined_halves.Goals as goal

pub returns-in-None : goal.returns-in-None
returns-in-None c g n ps h x y = piece_first g n ps c.args.at.now.variable c.args.at.now.bound c.args.second h (rw c.in-None.is at x) y

pub returns-in-None-second : goal.returns-in-None-second
returns-in-None-second c g n ps h x y = let a = rw c.in-Some.is at x in piece_right g n ps c.args.at.now.variable c.args.at.now.bound (tree_of c.in-Some.left) h a.is_tree (rw c.in-None-second.is at y)

pub returns-in_ok-whole-in-Some-second : goal.returns-in_ok-whole-in-Some-second
returns-in_ok-whole-in-Some-second c g n ps h x y = grown_halves g n ps c.args.at.now.variable c.args.at.now.bound c.in-Some.left c.in-Some-second.right c.in_ok-whole-in-Some-second.field-0 h (rw c.in-Some.is at x) (rw c.in-Some-second.is at y) c.in_ok-whole-in-Some-second.ensures
