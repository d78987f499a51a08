pub mod MadeGoals
pub mod UpperGoals
