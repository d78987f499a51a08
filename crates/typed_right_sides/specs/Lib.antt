pub mod Views
pub mod LoopHeads
pub mod internal
