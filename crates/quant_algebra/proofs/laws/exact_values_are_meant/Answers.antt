use Rattle.quant_algebra.proofs.Exactness.{exact_is, truth_is}
use Rattle.quant_algebra.proofs.laws.exact_values_are_meant.Goals as goal

pub returns : goal.returns
returns c = record { value = exact_is; truth = truth_is }
