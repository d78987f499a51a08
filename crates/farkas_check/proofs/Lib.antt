pub mod Acceptance
mod Examples
pub mod Soundness
pub mod Judgements
pub mod TrailSteps
pub mod PathEnds
mod GapExamples
pub mod exported
