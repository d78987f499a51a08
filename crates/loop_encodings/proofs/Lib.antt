pub mod AppendedActs
pub mod OwnVariables
pub mod CallSteps
pub mod Steps
pub mod ActSteps
pub mod Counts
pub mod FromRules
pub mod EncodedTypes
pub mod Bodies
pub mod Examples
pub mod BoundNames
pub mod PlainOccurrences
pub mod EncodedOver
pub mod SubstitutedVariables
pub mod PrenexedVariables
pub mod FreeVariables
pub mod GeneratedOverOwn
pub mod FreshVariables
mod FreshExamples
mod LawExamples
pub mod EncodedBinders
pub mod exported
