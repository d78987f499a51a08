-- For the proofs of other crates: sums with increasing variables, which their coefficients
-- determine.
pub use Rattle.linear_rows.proofs.Normal.{add-all, add-normal, fewer}
