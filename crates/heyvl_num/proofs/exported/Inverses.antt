-- For the proofs of other crates: inverses of positive fractions.
pub use Rattle.heyvl_num.proofs.Inverses.{inverse, Inverse}
