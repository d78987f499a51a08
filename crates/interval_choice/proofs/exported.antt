pub mod BoundedFractions
pub mod Inside
pub mod Pasts
pub mod Wholes
