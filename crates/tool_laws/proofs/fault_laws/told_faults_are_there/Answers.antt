use Rattle.tool_laws.proofs.ToldFaults.{told_there}
use Rattle.tool_laws.proofs.fault_laws.told_faults_are_there.Goals as goal

pub returns : goal.returns
returns c = told_there
