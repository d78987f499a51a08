-- All bytes have a list of tokens or a leftmost error.
use Rattle.heyvl_syntax.proofs.FrontIs.{IsFront, front-inside, front-is}
use Rattle.heyvl_syntax.proofs.Steps.{lexes_blank, lexes_end, lexes_token, made, stops_blank, stops_here, stops_token}
use Rattle.heyvl_syntax.specs.internal.Fronts.{front_of}
use Rattle.heyvl_syntax.specs.Tokens.{Lexes, Stops, span_of}
use Rattle.heyvl_syntax.specs.internal.Found as fronts
use Rattle.heyvl_syntax.specs.internal.Found.{Found}
use Rattle.heyvl_places.specs.declared.spans.Span.{Span}
use Rattle.heyvl_syntax.specs.declared.tokens.Token.{Token}
use Rattle.heyvl_syntax.specs.declared.tokens.TokenKind.{TokenKind}
use Rattle.std.proofs.Common.{List, [], arith, drop, inl, inr, length, suc, zero, ◌+◌, ◌<◌, ◌∷◌, ◌≤◌, ◌⊎◌, ℕ}
use Rattle.std.proofs.lemmas.List.{length-drop}

-- The tokens of bytes, or their leftmost error.
pub data Outcome (place : ℕ) (bytes : List ℕ) : Type 0 where
  split : (tokens : List Token) → Lexes place bytes tokens → Outcome place bytes
  stopped : (number : ℕ) (span : Span) → Stops place bytes number span → Outcome place bytes

after_blank : (place n : ℕ) (bytes : List ℕ) → IsFront bytes (fronts.Blank n) → Outcome (place + n) (drop n bytes) → Outcome place bytes
after_blank place n bytes front (split tokens rest) = split tokens (lexes_blank place n bytes front tokens rest)
after_blank place n bytes front (stopped number span rest) = stopped number span (stops_blank place n bytes front number span rest)

after_token : (place n : ℕ) (kind : TokenKind) (bytes : List ℕ) → IsFront bytes (fronts.Token kind n) → Outcome (place + n) (drop n bytes) → Outcome place bytes
after_token place n kind bytes front (split tokens rest) = split (made kind place n ∷ tokens) (lexes_token place n kind bytes front tokens rest)
after_token place n kind bytes front (stopped number span rest) = stopped number span (stops_token place n kind bytes front number span rest)

step : (place : ℕ) (bytes : List ℕ) (front : Found) → IsFront bytes front → ((n : ℕ) → 0 < n → n ≤ length bytes → Outcome (place + n) (drop n bytes)) → Outcome place bytes
step place bytes fronts.End h rest = split [] (lexes_end place bytes h)
step place bytes (fronts.Blank n) h rest =
    let inside = front-inside bytes (fronts.Blank n) h in
    after_blank place n bytes h (rest n inside.0 inside.1)
step place bytes (fronts.Token kind n) h rest =
    let inside = front-inside bytes (fronts.Token kind n) h in
    after_token place n kind bytes h (rest n inside.0 inside.1)
step place bytes (fronts.Fault number n) h rest = stopped number (span_of place n) (stops_here place n number bytes h)

by_length : (fuel place : ℕ) (bytes : List ℕ) → length bytes < fuel → Outcome place bytes
by_length zero place bytes h = absurd (omega arith)
by_length (suc fuel) place bytes h = step place bytes (front_of bytes) (front-is bytes) (λ n some within. by_length fuel (place + n) (drop n bytes) (omega (arith, length-drop n bytes)))

pub outcome : (place : ℕ) (bytes : List ℕ) → Outcome place bytes
outcome place bytes = by_length (suc (length bytes)) place bytes (omega arith)

pub one_of_both : (place : ℕ) (bytes : List ℕ) → ((tokens : List Token) × Lexes place bytes tokens) ⊎ ((number : ℕ) × (span : Span) × Stops place bytes number span)
one_of_both place bytes = either (outcome place bytes)
  where
    either : Outcome place bytes → ((tokens : List Token) × Lexes place bytes tokens) ⊎ ((number : ℕ) × (span : Span) × Stops place bytes number span)
    either (split tokens lexes) = inl (tokens, lexes)
    either (stopped number span stops) = inr (number, span, stops)
