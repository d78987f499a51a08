-- For other crates: the variables of a procedure, by their parts.
pub use Rattle.loop_encodings.proofs.OwnVariables.{own_variables, own_length}
