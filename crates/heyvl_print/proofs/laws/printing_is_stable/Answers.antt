use Rattle.heyvl_print.proofs.SameTexts.{stable}
use Rattle.heyvl_print.proofs.laws.printing_is_stable.Goals as goal

pub returns : goal.returns
returns c = stable
