use Rattle.run_machine.proofs.exported.StepWeights.{steps_weigh_one}
use Rattle.run_machine.proofs.laws.steps_weigh_one.Goals as goal

pub returns : goal.returns
returns c = steps_weigh_one
