-- For the proofs of other crates: the truths that a goal asks for are those of its free Booleans.
pub use Rattle.linear_form.proofs.Truths.{truths_booleans, truths_variables}
