pub mod Exactness
mod Examples
