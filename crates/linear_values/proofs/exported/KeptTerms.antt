-- For the proofs of other crates: operations preserve increasing variables and no zeros.
pub use Rattle.linear_values.proofs.KeptTerms.{of_two, plus_normal, scaled_normal, minus_normal, above_less, times_normal}
