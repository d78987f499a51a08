-- For other crates: a loop with its parts, and its encoding.
pub use Rattle.loop_encodings.proofs.Examples.{at, here, half, whole, named, x_is, hop_guard, hop_head, hop_invariant, hop_step}
