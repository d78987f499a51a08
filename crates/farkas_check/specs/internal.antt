pub mod Trails
pub mod Findings
