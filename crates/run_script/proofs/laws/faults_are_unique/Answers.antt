use Rattle.run_script.proofs.exported.UniqueScripts.{faults_are_unique}
use Rattle.run_script.proofs.laws.faults_are_unique.Goals as goal

pub returns : goal.returns
returns c = faults_are_unique
