-- For the proofs of other crates: runs of bytes of one class.
pub use Rattle.heyvl_syntax.proofs.Runs.{and_left, and_right, run_ends, run_stops}
