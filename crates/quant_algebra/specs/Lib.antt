pub mod ExactOperators
pub mod ExactMeaning
pub mod Laws
pub mod NumbersInUse
pub mod internal
