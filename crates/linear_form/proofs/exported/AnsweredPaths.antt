-- For the proofs of other crates: paths put together from answers.
pub use Rattle.linear_form.proofs.AnsweredPaths.{answered_path}
