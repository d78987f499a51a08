use Rattle.run_script.proofs.exported.UniqueScripts.{scripts_have_no_fault}
use Rattle.run_script.proofs.laws.scripts_have_no_fault.Goals as goal

pub returns : goal.returns
returns c = scripts_have_no_fault
