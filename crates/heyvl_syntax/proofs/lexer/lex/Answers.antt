use Rattle.heyvl_places.specs.declared.spans.Span.{Span}
use Rattle.heyvl_syntax.proofs.Unique.{lexes_no_stop, lexes_unique, stops_unique}
use Rattle.heyvl_syntax.proofs.lexer.lex.Goals as goal
use Rattle.heyvl_syntax.specs.Tokens.{IsFaultOrMemory, IsMemory, IsLexStop, Lexes, Stops}
use Rattle.heyvl_syntax.specs.declared.stops.LexStop.TheVariants as stops
use Rattle.heyvl_syntax.specs.declared.stops.LexStop.{LexStop}
use Rattle.heyvl_syntax.specs.declared.tokens.Token.{Token}
use Rattle.std.proofs.Common.{Err, IfErr, IfOk, List, MatchResult, Ok, Result, ℕ, ◌≡◌}

-- Only lack of memory stops the lexer on bytes that have a list of tokens.
only_memory : (bytes : List ℕ) (stop : LexStop) → IsLexStop bytes stop → (tokens : List Token) → Lexes 0 bytes tokens → IsMemory stop
only_memory bytes (stops.Fault number span) here tokens split = lexes_no_stop 0 bytes tokens number span split here
only_memory bytes (stops.Memory error) here tokens split = tt

-- Only the leftmost error and lack of memory stop the lexer on bytes with an error.
only_fault : (bytes : List ℕ) (stop : LexStop) → IsLexStop bytes stop → (number : ℕ) (span : Span) → Stops 0 bytes number span → IsFaultOrMemory number span stop
only_fault bytes (stops.Fault other at) here number span fault = stops_unique 0 bytes other number at span here fault
only_fault bytes (stops.Memory error) here number span fault = tt

only : {V : Type 0} (items : V → List Token) (bytes : List ℕ) (result : Result V LexStop) → IfOk result (λ found. Lexes 0 bytes (items found)) → IfErr result (λ stop. IsLexStop bytes stop) → (tokens : List Token) → Lexes 0 bytes tokens → MatchResult result (λ found. items found ≡ tokens) (λ stop. IsMemory stop)
only items bytes (Ok found) lexes stops tokens split = lexes_unique 0 bytes (items found) tokens lexes split
only items bytes (Err stop) lexes stops tokens split = only_memory bytes stop stops tokens split

stopped : {V : Type 0} (items : V → List Token) (bytes : List ℕ) (result : Result V LexStop) → IfOk result (λ found. Lexes 0 bytes (items found)) → IfErr result (λ stop. IsLexStop bytes stop) → (number : ℕ) (span : Span) → Stops 0 bytes number span → MatchResult result (λ found. ⊥) (λ stop. IsFaultOrMemory number span stop)
stopped items bytes (Ok found) lexes stops number span fault = lexes_no_stop 0 bytes (items found) number span lexes fault
stopped items bytes (Err stop) lexes stops number span fault = only_fault bytes stop stops number span fault

pub returns-clause-only : goal.returns-clause-only
returns-clause-only c = only (λ found. found.items) c.args.bytes.now c.lex_parts.result c.lex_parts.ensures.found c.lex_parts.ensures.fault

pub returns-clause-only_fault : goal.returns-clause-only_fault
returns-clause-only_fault c = stopped (λ found. found.items) c.args.bytes.now c.lex_parts.result c.lex_parts.ensures.found c.lex_parts.ensures.fault
