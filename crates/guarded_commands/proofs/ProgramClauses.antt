-- The other clauses of `parse_program`, from its clauses `found` and `fault`.
use Rattle.heyvl_parse.proofs.exported.Spellings.{no_spelling_fault, spelling_fault_unique}
use Rattle.heyvl_parse.proofs.exported.Wholes.{read_unique}
use Rattle.heyvl_syntax.specs.SourceFaults.{IsLight}
use Rattle.heyvl_syntax.specs.declared.tokens.Token.{Token}
use Rattle.guarded_commands.proofs.ProgramLaws.{program_laws}
use Rattle.guarded_commands.specs.Grammar.{IsProg, IsProgram}
use Rattle.guarded_commands.specs.Laws.{ProgramFaultIsUnique, ProgramIsUnique}
use Rattle.guarded_commands.specs.ProgramFaults.{IsPgclMemory, IsPgclStop, IsProgramFault, IsThisPgclStop}
use Rattle.guarded_commands.specs.Programs.{ProgramTree, program_tree}
use Rattle.guarded_commands.specs.declared.programs.Program.{Program}
use Rattle.guarded_commands.specs.declared.stops.PgclStop.TheVariants.{Fault, Memory}
use Rattle.guarded_commands.specs.declared.stops.PgclStop.{PgclStop}
use Rattle.guarded_commands.specs.internal.Programs.{program}
use Rattle.std.proofs.Common.{Err, IfErr, IfOk, List, MatchResult, Ok, Result, ◌≡◌, ℕ}

pub unique : ProgramIsUnique
unique text p q h k = read_unique IsProg program program_laws text p q h.grammar k.grammar

pub fault_unique : ProgramFaultIsUnique
fault_unique ts number other i j s t = spelling_fault_unique IsProgram 30 ts number other i j s t

module _ (ts : List Token) where
  abbrev Found : Result Program PgclStop → Type 0
  Found result = IfOk result (λ x. IsLight ts × IsProgram (program_tree x) ts)

  pub only_program : (result : Result Program PgclStop) → Found result → IfErr result (λ stop. IsPgclStop ts stop) → (x : ProgramTree) → IsLight ts → IsProgram x ts → MatchResult result (λ found. program_tree found ≡ x) (λ stop. IsPgclMemory stop)
  only_program (Ok y) found fault x light h = unique ts (program_tree y) x found.1 h
  only_program (Err (Fault number i)) found fault x light h = no_spelling_fault IsProgram 30 ts x number i light h fault
  only_program (Err (Memory error)) found fault x light h = tt

  pub only_fault : (result : Result Program PgclStop) → Found result → IfErr result (λ stop. IsPgclStop ts stop) → (number i : ℕ) → IsProgramFault ts number i → MatchResult result (λ _. ⊥) (λ stop. IsThisPgclStop number i stop)
  only_fault (Ok y) found fault number i h = no_spelling_fault IsProgram 30 ts (program_tree y) number i found.0 found.1 h
  only_fault (Err (Fault other j)) found fault number i h = fault_unique ts other number j i fault h
  only_fault (Err (Memory error)) found fault number i h = tt
