use Rattle.heyvl_syntax.proofs.OneFault.{source_faults_unique}
use Rattle.heyvl_syntax.proofs.laws.source_faults_are_unique.Goals as goal

pub returns : goal.returns
returns c = source_faults_unique
