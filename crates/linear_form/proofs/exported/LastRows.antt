-- For the proofs of other crates: the rows of a path with one more answer, from those of the answer
-- alone.
pub use Rattle.linear_form.proofs.LastRows.{more_rows, lost_here, lost_before, lost_rows}
