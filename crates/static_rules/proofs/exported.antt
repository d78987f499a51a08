-- The lemmas that crates above may cite. All other proofs are private.
pub mod Findings
