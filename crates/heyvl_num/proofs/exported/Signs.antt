-- For the proofs of other crates: signs of fractions, differences and strict orders.
pub use Rattle.heyvl_num.proofs.Signs.{+ʳ-neg, neg-+ʳ, negʳ-neg, negʳ_unique, negʳ-zero, negʳ-*ʳ, *ʳ-negʳ, negʳ-+ʳ, signs, -ʳ-is, -ʳ-self, -ʳ-+ʳ, +ʳ--ʳ, *ʳ--ʳ, ≤ʳ-+ʳ_cancel, minus_at_most, at_most_minus, difference_nonnegative, negʳ_mono, negatives-*ʳ, nonpositive-*ʳ, times_whole, halves, half-half, middle_above, middle_below, <ʳ-≤ʳ, <ʳ-not, compareʳ-is}
