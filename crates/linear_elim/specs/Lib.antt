pub mod Joins
pub mod Steps
pub mod Elimination
pub mod Laws
pub mod ChoiceNumbers
pub mod Answers
pub mod internal
