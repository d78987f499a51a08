-- For other crates: printable tokens in two lists, one after the other.
pub use Rattle.heyvl_print.proofs.TreePieces.{printable_append, printable_back, printable_front}
