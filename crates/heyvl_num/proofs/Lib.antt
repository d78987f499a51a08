pub mod Integers
pub mod Rationals
pub mod Values
mod Quotients
mod ExactParts
pub mod Roundings
pub mod Signs
pub mod WeightedSums
pub mod ValueOperators
pub mod Exactness
pub mod Rows
pub mod Inverses
mod Examples
pub mod exported
mod StoredParts
