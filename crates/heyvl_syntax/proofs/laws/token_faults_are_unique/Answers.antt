use Rattle.heyvl_syntax.proofs.OneFault.{token_faults_unique}
use Rattle.heyvl_syntax.proofs.laws.token_faults_are_unique.Goals as goal

pub returns : goal.returns
returns c = token_faults_unique
