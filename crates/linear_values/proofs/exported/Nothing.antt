-- For the proofs of other crates: sums with the constant 0.
pub use Rattle.linear_values.proofs.Nothing.{alone, nothing_is, plus_nothing}
