use Rattle.heyvl_syntax.proofs.Unique.{lexes_unique}
use Rattle.heyvl_syntax.proofs.laws.tokens_are_unique.Goals as goal

pub returns : goal.returns
returns c = lexes_unique
