-- For the proofs of other crates: rows that multipliers combine to a contradiction have no
-- solution.
pub use Rattle.linear_rows.proofs.Combinations.{contradiction_unmet, contradiction_unsolvable, unmet}
