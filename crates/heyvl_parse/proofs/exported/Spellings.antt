-- For other crates: the first error of tokens that have to spell one thing.
pub use Rattle.heyvl_parse.proofs.SpellingLaws.{no_spelling_fault, spelling_fault_unique}
