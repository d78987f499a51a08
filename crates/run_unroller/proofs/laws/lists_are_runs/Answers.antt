use Rattle.run_unroller.proofs.ListsOfRuns as lists
use Rattle.run_unroller.proofs.laws.lists_are_runs.Goals as goal

pub returns : goal.returns
returns c = lists.lists_are_runs
