-- For the proofs of other crates: values inside an interval.
pub use Rattle.interval_choice.proofs.Inside.{inside_past}
