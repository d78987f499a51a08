pub mod Trees
pub mod Nodes
pub mod Parts
pub mod Laws
pub mod internal
