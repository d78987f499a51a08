-- Lemmas for the proofs of other crates. Everything else in `proofs/` is private to this crate.
pub mod LoopParts
pub mod Calm
pub mod GoalVariables
pub mod OmegaParts
pub mod TurnActs
pub mod GoalForms
pub mod ReadyPairs
pub mod StartParts
