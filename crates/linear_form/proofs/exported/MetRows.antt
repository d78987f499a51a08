-- For the proofs of other crates: each state that agrees with a path satisfies its rows; with the
-- denied goal, if the goal fails in it.
pub use Rattle.linear_form.proofs.MetRows.{rows_are_met, denied_rows_are_met}
