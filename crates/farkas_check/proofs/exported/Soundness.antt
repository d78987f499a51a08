-- For the proofs of other crates: a goal with a certificate holds in every state.
pub use Rattle.farkas_check.proofs.Soundness.{certificate_holds}
