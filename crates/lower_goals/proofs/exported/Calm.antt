-- For other crates: the static rules on the acts of a proc with `@wlp` that is a program and has
-- one loop.
pub use Rattle.lower_goals.proofs.Calm.{AreCalm, CalmParts, IsCalm, calm_parts}
