-- For the proofs of other crates: what is read from bytes that begin with the text of a token.
pub use Rattle.heyvl_syntax.proofs.TokenReads.{Reads, ends_number, free_reads, is_free, key_reads, lexes_read, number_reads, opens, prefix_reads, spaced_reads, word_reads}
