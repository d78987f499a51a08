-- For other crates: a property of each act of a body holds of its one loop, and of each act before
-- it, in it and after it.
pub use Rattle.lower_goals.proofs.LoopParts.{OfParts, body_in_order, of_parts}
