use Rattle.heyvl_syntax.proofs.PlainTreesAre.{plain_expressions}
use Rattle.heyvl_syntax.proofs.tree_laws.expressions_are_plain.Goals as goal

pub returns : goal.returns
returns c = plain_expressions
