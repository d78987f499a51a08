pub mod Contracts
pub mod Programs
pub mod EncodedPrograms
