mod ExampleTexts
mod FaultExamples
pub mod exported
