pub mod Earlier
pub mod ProcedureParts
