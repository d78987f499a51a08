-- The lemmas that crates above may cite. All other proofs are private.
pub mod ArmedFiles
pub mod FewParts
pub mod FewProcedures
pub mod ProgramFiles
