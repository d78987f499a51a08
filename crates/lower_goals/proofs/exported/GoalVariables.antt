-- For other crates: the variables of the goals of an omega pair.
pub use Rattle.lower_goals.proofs.GoalVariables.{as_many, goal_types, types_length}
