use Rattle.heyvl_syntax.proofs.Unique.{stops_unique}
use Rattle.heyvl_syntax.proofs.laws.faults_are_unique.Goals as goal

pub returns : goal.returns
returns c = stops_unique
