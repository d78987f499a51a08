-- For other crates: readers of all tokens.
pub use Rattle.heyvl_parse.proofs.WholeLaws.{ended_bad, ended_fails, ended_good, ended_laws, every_kind, fault_clause, found_all, found_clause, read_unique}
