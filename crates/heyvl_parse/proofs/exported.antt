-- The lemmas that other crates may cite. All other proofs are private.
pub mod Loops
pub mod Readers
pub mod Spellings
pub mod Wholes
