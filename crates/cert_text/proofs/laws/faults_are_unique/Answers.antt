use Rattle.cert_text.proofs.Progress.{fault_once}
use Rattle.cert_text.proofs.laws.faults_are_unique.Goals as goal

pub returns : goal.returns
returns c = fault_once
