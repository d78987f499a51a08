use Rattle.heylo_graph.proofs.SameTrees.{same_tree}
use Rattle.heylo_graph.proofs.laws.trees_stand_once.Goals as goal

pub returns : goal.returns
returns c = λ ns g d i j t h k. same_tree ns g d i j t h k
