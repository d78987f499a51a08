-- For the proofs of other crates: a variable that occurs in rows over numbers is of a type of
-- numbers.
pub use Rattle.linear_elim.proofs.Greedily.{counted_numeric}
