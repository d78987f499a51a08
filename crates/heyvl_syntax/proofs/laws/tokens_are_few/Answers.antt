use Rattle.heyvl_syntax.proofs.InOrder.{tokens_few}
use Rattle.heyvl_syntax.proofs.laws.tokens_are_few.Goals as goal

pub returns : goal.returns
returns c = tokens_few
