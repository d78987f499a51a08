pub mod TestRows
mod ZeroTests
