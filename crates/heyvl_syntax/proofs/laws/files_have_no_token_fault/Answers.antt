use Rattle.heyvl_syntax.proofs.OneFault.{no_token_fault}
use Rattle.heyvl_syntax.proofs.laws.files_have_no_token_fault.Goals as goal

pub returns : goal.returns
returns c = no_token_fault
