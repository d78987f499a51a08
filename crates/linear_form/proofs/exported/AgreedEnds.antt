-- For the proofs of other crates: the law of the ends of paths.
pub use Rattle.linear_form.proofs.AgreedEnds.{ends_are_values}
