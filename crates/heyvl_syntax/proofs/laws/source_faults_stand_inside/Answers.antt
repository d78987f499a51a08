use Rattle.heyvl_syntax.proofs.FaultPlaces.{fault_inside}
use Rattle.heyvl_syntax.proofs.laws.source_faults_stand_inside.Goals as goal

pub returns : goal.returns
returns c = fault_inside
