pub mod LineCounts
pub mod Forms
pub mod Requests
pub mod Words
pub mod internal
