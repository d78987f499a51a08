-- For the proofs of other crates: the first bytes of tokens.
pub use Rattle.heyvl_syntax.proofs.Starts.{token_begins}
