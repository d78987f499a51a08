-- For the proofs of other crates: weighted sums.
pub use Rattle.heyvl_num.proofs.WeightedSums.{weighted_sum-empty, weighted_sum-cons, total_weight-empty, total_weight-cons, weighted_sum-append, weighted_sum-scaled, weighted_sum-factor, weighted_sum-+, weighted_sum-joined, weighted_sum-same, weighted_sum_mono, weighted_sum_nonnegative, total_weight_nonnegative, weighted_sum-constant, weighted_sum_bounded, is_weighted-append, is_weighted-scaled, is_weighted-joined, weighted}
