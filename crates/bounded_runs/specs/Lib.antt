pub mod Law
pub mod internal
