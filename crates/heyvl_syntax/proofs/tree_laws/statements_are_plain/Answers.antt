use Rattle.heyvl_syntax.proofs.PlainTreesAre.{plain_statements}
use Rattle.heyvl_syntax.proofs.tree_laws.statements_are_plain.Goals as goal

pub returns : goal.returns
returns c = plain_statements
