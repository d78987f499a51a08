pub mod Reasons
pub mod ReachedProcedures
pub mod internal
