-- For the proofs of other crates: the values of sums at given values of their variables.
pub use Rattle.linear_rows.proofs.Sums.{sum_at-add, sum_at-cons, sum_at-nil}
