use Rattle.tool_laws.proofs.ToldFaults.{static_told}
use Rattle.tool_laws.proofs.fault_laws.static_faults_are_told.Goals as goal

pub returns : goal.returns
returns c = static_told c.sources_have_no_fault.ensures c.spelling_is_unique.ensures
