pub mod Outcomes
pub mod RuledSteps
pub mod RuledRuns
pub mod GrowingSums
pub mod SideBySide
