mod AnyNumbers
mod CallEntries
pub mod exported
