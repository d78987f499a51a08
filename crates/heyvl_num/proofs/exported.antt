-- Lemmas for the proofs of other crates. All other proofs are private to this crate.
pub mod Integers
pub mod Rationals
pub mod Values
pub mod Signs
pub mod Roundings
pub mod WeightedSums
pub mod Exactness
pub mod Rows
pub mod Operators
pub mod WholeNumbers
pub mod Inverses
