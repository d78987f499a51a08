pub mod Decimals
pub mod Editions
pub mod Walk
pub mod TextCuts
pub mod Multipliers
pub mod FilledTrees
pub mod WrittenLines
pub mod Progress
pub mod Unique
pub mod EndAnswers
mod FaultExamples
pub mod FrontDigits
pub mod Rows
