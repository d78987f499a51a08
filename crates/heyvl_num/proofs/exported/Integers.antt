-- For the proofs of other crates: integers.
pub use Rattle.heyvl_num.proofs.Integers.{*ℤ_assoc, *ℤ-+ℤ, +ℤ-*ℤ, *ℤ_left_comm, +ℤ_left_comm, neg-*ℤ, *ℤ-neg, ring, ring_neg, ≤ℤ-scale, ≤ℤ-cancel, one-*ℤ, *ℤ-one, zero_times, zero-+ℤ, le_test, test_le, same_test}
