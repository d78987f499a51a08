-- Lemmas for the proofs of other crates. All other proofs are private to this crate.
pub mod LongerLists
pub mod NodeParts
