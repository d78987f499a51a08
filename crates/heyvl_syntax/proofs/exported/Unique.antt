-- For the proofs of other crates: bytes have at most one list of tokens.
pub use Rattle.heyvl_syntax.proofs.Unique.{lexes_unique}
