use Rattle.run_unroller.proofs.SumsOfRuns as sums
use Rattle.run_unroller.proofs.laws.totals_are_sums.Goals as goal

pub returns : goal.returns
returns c = sums.totals_are c.exact_values_are_meant.ensures.value
