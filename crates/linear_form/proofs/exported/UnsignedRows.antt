-- For the proofs of other crates: an unsigned variable that occurs in the rows of a path has a row
-- that says that it is not negative.
pub use Rattle.linear_form.proofs.UnsignedRows.{unsigned_nonnegative}
