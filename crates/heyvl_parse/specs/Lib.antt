pub mod Files
pub mod Laws
pub mod Spellings
pub mod internal
pub mod readers
