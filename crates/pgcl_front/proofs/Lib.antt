pub mod QuietTokens
pub mod QuietPrograms
pub mod Meanings
pub mod Scopes
pub mod Probabilities
pub mod Matching
pub mod TranslatedActs
pub mod Equations
pub mod Simulation
pub mod Beginnings
pub mod MainSums
pub mod MainBounds
pub mod TranslatedSums
pub mod exported
mod Examples
mod LawExamples
