pub mod Words
pub mod Ends
pub mod ReadStates
pub mod WholeLines
pub mod Steps
