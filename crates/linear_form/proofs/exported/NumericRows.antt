-- For the proofs of other crates: each variable of a row of a typed goal has a type of numbers.
pub use Rattle.linear_form.proofs.NumericRows.{numeric_rows, unsigned_number}
