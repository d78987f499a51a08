use Rattle.run_script.proofs.exported.UniqueScripts.{scripts_are_unique}
use Rattle.run_script.proofs.laws.scripts_are_unique.Goals as goal

pub returns : goal.returns
returns c = scripts_are_unique
