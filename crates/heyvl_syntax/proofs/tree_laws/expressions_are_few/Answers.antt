use Rattle.heyvl_syntax.proofs.FewNodes.{few_nodes}
use Rattle.heyvl_syntax.proofs.tree_laws.expressions_are_few.Goals as goal

pub returns : goal.returns
returns c = few_nodes
