-- For the proofs of other crates: a state that has the truths of a path and satisfies its rows
-- agrees with it; with the denied goal among the rows, the goal fails.
pub use Rattle.linear_form.proofs.FalsifyingPoints.{points_falsify}
