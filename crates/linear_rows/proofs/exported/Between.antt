-- For the proofs of other crates: a shift that satisfies lower and upper bounds, if each lower
-- bound is compatible with each upper bound.
pub use Rattle.linear_rows.proofs.Between.{All-both, Shift, below-both, below-cancel, below-same, below-scale, below-strong, below-weak, between}
