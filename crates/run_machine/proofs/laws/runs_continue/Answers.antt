use Rattle.run_machine.proofs.RunSteps as laws
use Rattle.run_machine.proofs.laws.runs_continue.Goals as goal

pub returns-clause-continued : goal.returns-clause-continued
returns-clause-continued c = laws.runs_continue

pub returns-clause-ended : goal.returns-clause-ended
returns-clause-ended c = laws.ended_stays
