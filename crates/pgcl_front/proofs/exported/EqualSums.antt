-- Equal sums of guarded commands and of their coproc, and bounds that carry over.
pub use Rattle.pgcl_front.proofs.MainBounds.{bounds_carry_over}
pub use Rattle.pgcl_front.proofs.MainSums.{sums_are_equal}
