pub mod Fresh
pub mod Encoding
pub mod EncodingLaws
pub mod FreshLaws
pub mod BoundGoals
pub mod internal
