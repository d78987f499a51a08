-- For other crates: a property of each act of a procedure holds of the loop with a number, and of
-- its body.
pub use Rattle.ranking_rule.proofs.RankedActs.{of_head, of_body}
