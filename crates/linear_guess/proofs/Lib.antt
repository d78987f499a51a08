pub mod SpotRows
pub mod SpotExamples
pub mod KnownRows
pub mod exported
