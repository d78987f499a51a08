pub mod exported
mod Examples
mod CauseExamples
mod Held
mod Told
mod Pieces
mod StartOrder
