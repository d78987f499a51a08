pub mod Tables
pub mod StoredSizes
