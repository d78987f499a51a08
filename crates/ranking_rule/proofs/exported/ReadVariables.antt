-- For other crates: the acts of a procedure, and the invariants of its loops, read only its
-- variables.
pub use Rattle.ranking_rule.proofs.ReadVariables.{ReadsFirst, all_read}
