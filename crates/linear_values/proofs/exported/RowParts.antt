-- For the proofs of other crates: the row of an inequality, from its parts.
pub use Rattle.linear_values.proofs.RowParts.{too_large, ok_then}
