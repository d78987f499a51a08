-- Lemmas for the proofs of other crates. Everything else in `proofs/` is private to this crate.
pub mod OwnVariables
pub mod FromRules
pub mod Counts
pub mod EncodedTypes
pub mod Examples
pub mod BoundNames
