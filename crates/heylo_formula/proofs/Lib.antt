pub mod Dependence
pub mod FreshNumbers
pub mod RenamedValues
pub mod SameRenaming
pub mod SubstitutionValues
pub mod SubstitutionSteps
pub mod Mirrors
pub mod SubstitutionTrees
pub mod SubstitutionResults
pub mod TypedValues
pub mod BoundedChoices
mod Examples
pub mod SubstitutionTypes
pub mod SubstitutionBinders
pub mod OneMeaning
pub mod FiniteChoices
pub mod exported
