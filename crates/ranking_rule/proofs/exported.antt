-- Lemmas for the proofs of other crates. Everything else in `proofs/` is private to this crate.
pub mod Each
pub mod RankedActs
pub mod PrenexedSizes
pub mod ReadVariables
pub mod UpwardActs
