-- For the proofs of other crates: beginnings of texts, and the single index of an unexpected token.
pub use Rattle.heyvl_syntax.proofs.Beginnings.{shorter, unexpected_unique}
