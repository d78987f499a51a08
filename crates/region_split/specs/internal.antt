pub mod MovedRows
pub mod Clashes
pub mod KnownComparisons
pub mod Trails
pub mod PathFindings
pub mod Repeats
pub mod Progress
