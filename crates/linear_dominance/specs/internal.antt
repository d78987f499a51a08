pub mod NextLess
