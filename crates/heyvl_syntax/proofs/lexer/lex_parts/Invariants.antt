use Rattle.heyvl_places.specs.declared.spans.Span.{Span}
use Rattle.heyvl_syntax.proofs.lexer.lex_parts.Given as goal
use Rattle.heyvl_syntax.specs.Tokens.{Lexes, Stops}
use Rattle.heyvl_syntax.specs.declared.tokens.Token.{Token}
use Rattle.std.proofs.Common.{List, length, ℕ, ◌++◌, ◌+◌, ◌≡◌}

abbrev pub invariant-parts : goal.invariant-parts
invariant-parts l = record {
  within : l.place + length l.rest ≡ length l.bytes;
  lexed : (tokens : List Token) → Lexes l.place l.rest tokens → Lexes 0 l.bytes (l.tokens.items ++ tokens);
  stopped : (number : ℕ) (span : Span) → Stops l.place l.rest number span → Stops 0 l.bytes number span;
}

abbrev pub decreases-parts : goal.decreases-parts
decreases-parts l = length l.rest
