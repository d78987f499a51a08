-- For the proofs of other crates: fractions below 2^62 are compared exactly, and the tighter of two
-- ends.
pub use Rattle.interval_choice.proofs.BoundedFractions.{up_from_weak, up_to_weak, ranks_less, ranks_equal, ranks_greater, stronger_low, stronger_high, low_same, high_same, short_num, short_den}
