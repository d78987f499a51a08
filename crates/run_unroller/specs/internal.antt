pub mod Extensions
pub mod Growth
pub mod RunViews
