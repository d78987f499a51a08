use Rattle.heyvl_syntax.proofs.Unique.{lexes_no_stop}
use Rattle.heyvl_syntax.proofs.laws.tokens_exclude_faults.Goals as goal

pub returns : goal.returns
returns c = lexes_no_stop
