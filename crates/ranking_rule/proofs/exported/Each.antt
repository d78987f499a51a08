-- For other crates: properties of each element of a list.
pub use Rattle.heyvl_acts.proofs.exported.Each.{each_append}
