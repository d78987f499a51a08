-- For the proofs of other crates: if no variable has a sign row, no row is dominated.
pub use Rattle.linear_dominance.proofs.Signless.{never_dominated}
