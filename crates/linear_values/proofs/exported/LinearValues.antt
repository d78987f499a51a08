-- For the proofs of other crates: the value of a linear value in a state, operator by operator.
pub use Rattle.linear_values.proofs.LinearValues.{plus_at, minus_at, scaled_at, variable_at, at_most_at, below_at, constant_at, leq_zero_minus, leq_minus}
