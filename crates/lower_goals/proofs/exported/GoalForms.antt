-- For other crates: the two sides of each goal of an omega pair.
pub use Rattle.lower_goals.proofs.GoalForms.{behind_fit, body_fit, body_over, greater_few, greater_over, greater_typed, loop_over, no_turn, no_turn_plain, one_more, one_more_plain, smaller_few, smaller_over, smaller_plain, smaller_typed}
