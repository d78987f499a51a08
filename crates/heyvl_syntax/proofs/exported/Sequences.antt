-- For the proofs of other crates: sequences of productions.
pub use Rattle.heyvl_syntax.proofs.Sequences.{then_assoc, then_map}
