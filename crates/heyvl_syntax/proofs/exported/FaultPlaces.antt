-- For the proofs of other crates: the places of errors.
pub use Rattle.heyvl_syntax.proofs.FaultPlaces.{fault_inside}
