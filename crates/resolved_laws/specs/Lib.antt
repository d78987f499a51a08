pub mod ResolvedLaws
pub mod ResolvedSizes
