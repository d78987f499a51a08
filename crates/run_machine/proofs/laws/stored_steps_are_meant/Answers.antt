use Rattle.run_machine.proofs.FirstConfigs.{stored_config}
use Rattle.run_machine.proofs.Procedures.{stored_begun}
use Rattle.run_machine.proofs.Steps as steps
use Rattle.run_machine.proofs.laws.stored_steps_are_meant.Goals as goal

pub returns-clause-begun : goal.returns-clause-begun
returns-clause-begun c = λ ps p s. record { first = stored_begun ps p s; config = stored_config ps p s }

pub returns-clause-steps : goal.returns-clause-steps
returns-clause-steps c = steps.stored_steps_are_meant
