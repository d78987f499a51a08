-- For the proofs of other crates: Farkas sums of inequalities.
pub use Rattle.heyvl_num.proofs.Rows.{row_scaled, rows_added, row_contradicts, opposites_cancel, rows_contradict, farkas}
