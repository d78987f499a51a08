pub mod PickLaws
pub mod Middles
pub mod Pasts
pub mod BoundedFractions
mod Wholes
mod Inside
pub mod exported
