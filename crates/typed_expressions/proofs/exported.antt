pub mod LiteralFractions
pub mod PartAnswers
pub mod Parts
pub mod ScopeEntries
pub mod TypedMeanings
pub mod Free
pub mod PartTests
