pub mod Combinators
pub mod PartStops
pub mod ReadParts
pub mod Results
