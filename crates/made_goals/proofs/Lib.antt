pub mod MadeGoals
pub mod MadeUpperGoals
pub mod MadeForms
pub mod exported
