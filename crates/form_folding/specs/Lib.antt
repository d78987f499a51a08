pub mod Foldings
pub mod internal
