-- For other crates: the static rules on each act of a body, and on each procedure of a file.
pub use Rattle.loop_encodings.proofs.FromRules.{IsFine, all_fine, each_procedure, is_there, procedure_is, rules_at}
pub use Rattle.heyvl_acts.proofs.exported.Each.{each_first, each_second, each_at}
