pub mod Sides
pub mod Picks
