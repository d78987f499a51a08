use Rattle.run_machine.proofs.RunSteps.{steps_are_determined, picks_go_left, ill_typed_is_default, missing_is_default, anys_are_outs}
use Rattle.run_machine.proofs.laws.decisions_decide_steps.Goals as goal

pub returns-clause-determined : goal.returns-clause-determined
returns-clause-determined c = steps_are_determined

pub returns-clause-picks : goal.returns-clause-picks
returns-clause-picks c = picks_go_left

pub returns-clause-ill_typed : goal.returns-clause-ill_typed
returns-clause-ill_typed c = ill_typed_is_default

pub returns-clause-missing : goal.returns-clause-missing
returns-clause-missing c = missing_is_default

pub returns-clause-anys : goal.returns-clause-anys
returns-clause-anys c = anys_are_outs
