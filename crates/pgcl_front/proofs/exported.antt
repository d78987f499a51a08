-- The lemmas that other crates may cite. All other proofs are private.
pub mod EqualSums
