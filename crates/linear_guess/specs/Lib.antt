pub mod Spots
pub mod Findings
pub mod Searches
