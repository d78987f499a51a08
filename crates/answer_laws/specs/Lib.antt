pub mod Named
pub mod CompleteAnswers
pub mod SingleAnswers
pub mod KeptAnswers
