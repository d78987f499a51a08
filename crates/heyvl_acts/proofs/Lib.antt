mod Matching
mod IfCopies
mod ActsAtPlaces
pub mod TargetSteps
pub mod CountsLeft
mod ActExamples
pub mod exported
