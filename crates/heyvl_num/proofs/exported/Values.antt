-- For the proofs of other crates: values, their semiring and their order.
pub use Rattle.heyvl_num.proofs.Values.{is_zero-zero, is_zero-one, is_zero-is, is_zero-*, is_zero-+, +ᵛ_comm, +ᵛ_assoc, +ᵛ_left_comm, zero-+ᵛ, +ᵛ-zero, *ᵛ_comm, *ᵛ_assoc, *ᵛ_left_comm, zero-*ᵛ, *ᵛ-zero, one-*ᵛ, *ᵛ-one, infinite_times_zero, infinite_times_other, finite-+, finite-*, finite_sum, finite_product, scale_scale, scale-+ᵛ, finite_order, order_finite, nonnegative_finite, finite_nonnegative, *ᵛ-+ᵛ, +ᵛ-*ᵛ, +ᵛ-scale, weights-*, ≤ᵛ_refl, ≤ᵛ_infinite, infinite_above, ≤ᵛ_trans, ≤ᵛ_antisym, ≤ᵛ_total, +ᵛ_mono, scale_mono, *ᵛ_mono_left, *ᵛ_mono_right, *ᵛ_mono, zero-≤ᵛ-one, zero-≤ᵛ-zero, +ᵛ_nonnegative, *ᵛ_nonnegative, scale_nonnegative, weight_mono, ≤ᵛ-+ᵛ, ≤ᵛ-+ᵛ_left, +ᵛ-infinite, half-half, compareᵛ-is, <ᵛ-≤ᵛ, <ᵛ-not, at_most_or_less, finite_terms, scale-infinite, semiring, ordered}
