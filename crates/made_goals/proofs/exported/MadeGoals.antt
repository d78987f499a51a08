-- For other crates: the numbers of variables and names of a goal, and goals of equal formulas.
pub use Rattle.made_goals.proofs.MadeGoals.{new_types_length, all_names_length, same_types}
pub use Rattle.made_goals.proofs.MadeForms.{fit_as, made_as, named_as}
