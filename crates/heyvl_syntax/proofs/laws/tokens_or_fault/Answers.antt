use Rattle.heyvl_syntax.proofs.Total.{one_of_both}
use Rattle.heyvl_syntax.proofs.laws.tokens_or_fault.Goals as goal

pub returns : goal.returns
returns c = one_of_both
