-- For other crates: the one loop of the first procedure of a pair.
pub use Rattle.lower_goals.proofs.ReadyPairs.{the_loop}
