pub mod PlacelessForms
pub mod PlacelessActs
pub mod PlacelessProcedures
pub mod PlacelessRuns
