-- For the proofs of other crates: fractions, their ring, their order and their cross products.
pub use Rattle.heyvl_num.proofs.Rationals.{same_parts, ratio_num, ratio_den, div_cross, ratio_cross, ratio_same, div_one, ratio_parts, same_cross, each_ratio, ratio-+, ratio-*, ratio-neg, ratio--, difference_parts, +ʳ_comm, +ʳ_assoc, *ʳ_comm, *ʳ_assoc, *ʳ-+ʳ, +ʳ-*ʳ, +ʳ_left_comm, *ʳ_left_comm, zero-+ʳ, zero-*ʳ, one-*ʳ, +ʳ-zero, *ʳ-zero, *ʳ-one, ring, leq_ratio, cross_order, order_cross, ratio-≤, ratio-≤_out, ≤ʳ_refl, ratio_equal_cross, ≤ʳ_trans, ≤ʳ_antisym, ≤ʳ_total, +ʳ_mono, ratio_nonnegative, nonnegative_num, *ʳ_mono, *ʳ_mono_right, +ʳ_nonnegative, *ʳ_nonnegative, zero-≤ʳ-one, ≤ʳ-+ʳ, ≤ʳ-+ʳ_left, order}
