pub mod Said
pub mod StartDecisions
pub mod Decidable
pub mod PairDecisions
pub mod PairAnswers
