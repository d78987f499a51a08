mod DifferenceWalk
mod LeftRows
mod Signless
mod Examples
pub mod exported
