pub mod NextTerms
pub mod Columns
pub mod FirstRows
