-- For the proofs of other crates: a point with one variable moved, and points that agree elsewhere.
pub use Rattle.linear_rows.proofs.Moves.{agrees-moved, coefficient-add, coefficient-is, left_side-moved, moved, only}
