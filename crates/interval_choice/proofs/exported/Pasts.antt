-- For the proofs of other crates: the place 1 beyond an end.
pub use Rattle.interval_choice.proofs.Pasts.{zero_fits}
