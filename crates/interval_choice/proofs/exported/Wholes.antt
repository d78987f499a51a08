-- For the proofs of other crates: integers as fractions.
pub use Rattle.interval_choice.proofs.Wholes.{whole-zero, whole-negative, whole-one, less_from}
