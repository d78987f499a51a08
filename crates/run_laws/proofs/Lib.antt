pub mod TypedRuns
pub mod Bare
mod Examples
mod LawExamples
pub mod exported
