-- For the proofs of other crates: errors of tokens.
pub use Rattle.heyvl_syntax.proofs.OneFault.{light_or_over, no_token_fault, token_faults_unique}
