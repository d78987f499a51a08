pub mod Earlier
pub mod ProcedureParts
pub mod ReadProcedures
pub mod ProcedureList
mod Rests
mod Walks
mod LastElement
mod ReadRests
mod NestedStatements
mod NewNames
mod Havocs
