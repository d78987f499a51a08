-- For the proofs of other crates: the rows that are left imply those that are left out.
pub use Rattle.linear_dominance.proofs.LeftRows.{undominated_tell}
