pub mod HeldCounts
pub mod ExpressionReaders
pub mod FileReaders
pub mod Leaves
pub mod Loops
pub mod Procedures
pub mod Rights
pub mod Statements
