pub mod CollectedSums
pub mod Omega
pub mod Remainder
pub mod LimitedDecisions
pub mod RemainderAnswers
pub mod OmegaAnswers
pub mod internal
