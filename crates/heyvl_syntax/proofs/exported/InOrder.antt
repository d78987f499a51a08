-- For the proofs of other crates: the order of tokens.
pub use Rattle.heyvl_syntax.proofs.InOrder.{stand_in_order, tokens_few}
