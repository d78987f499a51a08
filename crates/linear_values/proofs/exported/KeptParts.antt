-- For the proofs of other crates: the parts of linear values.
pub use Rattle.linear_values.proofs.KeptParts.{terms_fit, rest_fits}
