-- For other crates: the static rules on each act of a proc with `@wlp` and one loop, and that free
-- variables occur.
pub use Rattle.lower_goals.proofs.TurnActs.{IsTurnAct, free_occurs, free_occurs_in}
