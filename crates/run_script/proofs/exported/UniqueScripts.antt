-- Bytes spell one script, or have one first invalid line.
use Rattle.run_script.proofs.FirstFaults.{no_fault, same_fault}
use Rattle.run_script.proofs.NextLines.{same_lines}
use Rattle.run_script.specs.Lines.{text_lines}
use Rattle.run_script.specs.ScriptLaws.{FaultsAreUnique, ScriptsAreUnique, ScriptsHaveNoFault}

pub scripts_are_unique : ScriptsAreUnique
scripts_are_unique known s t bytes h k = same_lines known s t (text_lines bytes) h k

pub faults_are_unique : FaultsAreUnique
faults_are_unique known bytes m n f g = same_fault known (text_lines bytes) m n f g

pub scripts_have_no_fault : ScriptsHaveNoFault
scripts_have_no_fault known s bytes n h f = no_fault known s (text_lines bytes) n h f
