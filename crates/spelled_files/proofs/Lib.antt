mod EachOf
mod FaultExamples
mod Meanings
mod ProgramSums
mod SmallForms
mod SpelledExpressions
mod SpelledFiles
mod SpelledParts
mod SpelledStatements
mod WorkedFaults
pub mod exported
