pub mod Sums
pub mod Between
pub mod Moves
pub mod Normal
pub mod Fractions
pub mod Combinations
pub mod Narrow
pub mod MixedSums
pub mod TermWalks
mod Coefficients
mod PartialSums
mod Positions
mod GreedyChoices
mod GreedyUnique
mod FirstRows
mod SameTerms
pub mod exported
