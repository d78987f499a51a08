-- For the proofs of other crates: the factor that makes coefficients integers, term by term from
-- the last one.
pub use Rattle.linear_values.proofs.Factors.{normal_nonzero, whole_num, nonzero_factor}
