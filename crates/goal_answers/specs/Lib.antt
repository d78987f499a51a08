pub mod Trees
pub mod Multipliers
