-- The names of the goals of a bound.
pub use Rattle.loop_encodings.proofs.BoundNames.{invariant_ids, same_goal}
