pub mod ActsInOrder
pub mod ArmedActs
pub mod Each
pub mod Lengths
pub mod PlainActsAre
pub mod Tosses
pub mod UpwardMeaning
pub mod Weights
