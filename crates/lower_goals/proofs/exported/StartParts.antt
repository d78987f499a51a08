-- For other crates: the static rules on the acts before the loop of a remainder pair, on its
-- ranking, and on the bound.
pub use Rattle.lower_goals.proofs.StartParts.{IsStart, bound_formula, bound_over, is_start, start_as}
