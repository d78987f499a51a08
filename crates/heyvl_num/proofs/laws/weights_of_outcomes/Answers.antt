use Rattle.std.proofs.Common.{ℕ}
use Rattle.heyvl_num.proofs.WeightedSums.{weighted_sum_nonnegative, total_weight-empty, total_weight-cons}
use Rattle.heyvl_num.proofs.laws.weights_of_outcomes.Goals as goal

pub returns : goal.returns
returns c = record { nothing = total_weight-empty ℕ; more = total_weight-cons {A = ℕ}; nonnegative = weighted_sum_nonnegative {A = ℕ} }
