pub mod Walk
pub mod PathPoints
pub mod Pieces
pub mod WalkTree
pub mod Decisions
pub mod Meanings
pub mod DecisionLaws
pub mod internal
