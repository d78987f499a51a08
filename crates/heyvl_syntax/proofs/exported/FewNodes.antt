-- For the proofs of other crates: the size of the trees of a file.
pub use Rattle.heyvl_syntax.proofs.FewNodes.{few_nodes}
