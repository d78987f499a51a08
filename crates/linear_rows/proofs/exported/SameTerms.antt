-- For the proofs of other crates: the comparison of lists of terms is true exactly if the lists are
-- equal.
pub use Rattle.linear_rows.proofs.SameTerms.{same_number-is, same_terms-is, terms-same, same_terms-tells, and_true}
