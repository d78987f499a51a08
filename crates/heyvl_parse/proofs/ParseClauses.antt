-- The other clauses of `parse`, from its clauses `found` and `fault`.
use Rattle.heyvl_parse.specs.Files.{IsParseMemory, IsParseStop, IsThisParseStop}
use Rattle.heyvl_parse.specs.Laws.{FileIsUnique}
use Rattle.heyvl_parse.specs.declared.parser.ParseStop.TheVariants.{Fault, Memory}
use Rattle.heyvl_parse.specs.declared.parser.ParseStop.{ParseStop}
use Rattle.heyvl_syntax.proofs.exported.FewNodes.{few_nodes}
use Rattle.heyvl_syntax.proofs.exported.OneFault.{no_token_fault, token_faults_unique}
use Rattle.heyvl_syntax.specs.Grammar.{IsFile}
use Rattle.heyvl_syntax.specs.Procedures.{Procedure, procedures}
use Rattle.heyvl_syntax.specs.Sizes.{expression_nodes}
use Rattle.heyvl_syntax.specs.SourceFaults.{IsTokenFault, IsWithinLimits}
use Rattle.heyvl_syntax.specs.declared.procedures.File.{File}
use Rattle.heyvl_syntax.specs.declared.tokens.Token.{Token}
use Rattle.std.proofs.Common.{Err, IfErr, IfOk, List, MatchResult, Ok, Result, length, ◌≡◌, ◌≤◌, ℕ}

module _ (ts : List Token) where
  abbrev Found : Result File ParseStop → Type 0
  Found result = IfOk result (λ x. IsWithinLimits ts × IsFile (procedures x) ts)

  pub only_file : FileIsUnique → (result : Result File ParseStop) → Found result → IfErr result (λ stop. IsParseStop ts stop) → (x : List Procedure) → IsWithinLimits ts → IsFile x ts → MatchResult result (λ found. procedures found ≡ x) (λ stop. IsParseMemory stop)
  only_file unique (Ok y) found fault x within h = unique ts (procedures y) x found.1 h
  only_file unique (Err (Fault number i)) found fault x within h = no_token_fault ts x number i within h fault
  only_file unique (Err (Memory error)) found fault x within h = tt

  pub only_fault : (result : Result File ParseStop) → Found result → IfErr result (λ stop. IsParseStop ts stop) → (number i : ℕ) → IsTokenFault ts number i → MatchResult result (λ _. ⊥) (λ stop. IsThisParseStop number i stop)
  only_fault (Ok y) found fault number i h = no_token_fault ts (procedures y) number i found.0 found.1 h
  only_fault (Err (Fault other j)) found fault number i h = token_faults_unique ts other number j i fault h
  only_fault (Err (Memory error)) found fault number i h = tt

  pub few : (result : Result File ParseStop) → Found result → IfOk result (λ x. expression_nodes (procedures x) ≤ length ts)
  few (Ok y) found = few_nodes (procedures y) ts found.1
  few (Err e) found = tt
