pub mod EachOutcome
pub mod RuledConfigurations
pub mod RuledSteps
pub mod Growth
pub mod Bare
pub mod Violations
