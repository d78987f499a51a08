pub mod ParameterSteps
pub mod ClauseForms
pub mod PreAndPost
pub mod LocalsLeft
