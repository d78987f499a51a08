pub mod SumsAfter
pub mod Shortages
pub mod RefutedAnswers
pub mod ScriptedSums
pub mod Violations
pub mod internal
