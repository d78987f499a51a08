use Rattle.heyvl_syntax.proofs.InOrder.{stand_in_order}
use Rattle.heyvl_syntax.proofs.laws.tokens_stand_in_order.Goals as goal

pub returns : goal.returns
returns c = stand_in_order
