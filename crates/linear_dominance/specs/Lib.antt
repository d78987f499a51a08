pub mod DominatedRows
pub mod Laws
pub mod internal
