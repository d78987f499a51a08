-- For the proofs of other crates: the sum of two lists of terms, term by term from the lowest
-- variable.
pub use Rattle.linear_values.proofs.MergedTerms.{passed, minus_one_nonzero, difference_made}
