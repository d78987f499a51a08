-- Lemmas for the proofs of other crates. All other proofs are private to this crate.
pub mod Shifts
pub mod Plain
pub mod TypedTerms
pub mod States
pub mod Agreement
pub mod Growth
pub mod BinderNames
pub mod Substitutions
pub mod Goals
pub mod Operators
pub mod Mirrors
