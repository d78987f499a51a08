-- For the proofs of other crates: a point over a common denominator satisfies the same rows as its
-- fractions.
pub use Rattle.linear_rows.proofs.Fractions.{meets_alike, point_of, point_same, solvable_is}
unfoldable pub use Rattle.linear_rows.proofs.Fractions.{Same}
