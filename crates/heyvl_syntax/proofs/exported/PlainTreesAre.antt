-- For the proofs of other crates: the plain trees of the trees in memory.
pub use Rattle.heyvl_syntax.proofs.PlainTreesAre.{plain_expressions, plain_statements}
