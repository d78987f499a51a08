pub mod Bytes
pub mod Faults
pub mod Files
pub mod History
pub mod Order
pub mod OrderLaws
