-- For the proofs of other crates: a path and one more answer.
pub use Rattle.linear_form.proofs.PathSteps.{agrees_onto, path_onto}
pub use Rattle.linear_form.proofs.SplitPaths.{plain_path, empty_path, only_questions, asked_onto, split_onto}
