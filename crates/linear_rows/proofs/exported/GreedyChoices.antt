-- For the proofs of other crates: the value chosen in an interval is inside it, and the greedy
-- choice is unique.
pub use Rattle.linear_rows.proofs.GreedyChoices.{AreWhole, completed, chosen_whole, zero_whole}
pub use Rattle.linear_rows.proofs.GreedyUnique.{choices_unique, points_unique}
