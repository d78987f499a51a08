-- For the proofs of other crates: tokens, part by part.
pub use Rattle.heyvl_syntax.proofs.Steps.{made}
