use Rattle.heyvl_num.proofs.WeightedSums.{weighted_sum-append, weighted_sum-scaled, weighted_sum-factor, weighted_sum-joined, weighted_sum_mono, weighted_sum_bounded}
use Rattle.heyvl_num.proofs.laws.weighted_sums.Goals as goal

pub returns : goal.returns
returns c = record {
  appended = λ f xs ys. weighted_sum-append f xs ys;
  factors = λ f w xs. (weighted_sum-scaled f w xs, weighted_sum-factor f w xs);
  joined = λ f k xs. weighted_sum-joined f k xs;
  monotone = λ f g xs p h. weighted_sum_mono f g xs p h;
  bounded = λ f v xs p t q h. weighted_sum_bounded f v xs p t q h;
}
