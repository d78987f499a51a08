-- Laws of the definition of tokens: bytes either are split into tokens or have a leftmost error,
-- never both, and each is unique.
use Rattle.heyvl_places.specs.declared.spans.Span.{Span}
use Rattle.heyvl_syntax.specs.Literals.{IsInLimits}
use Rattle.heyvl_syntax.specs.Tokens.{IsToken, Lexes, Stops}
use Rattle.heyvl_syntax.specs.declared.tokens.Token.{Token}
use Rattle.heyvl_syntax.specs.declared.tokens.TokenKind.TheVariants as kinds
use Rattle.heyvl_syntax.specs.declared.tokens.TokenKind.{TokenKind}
use Rattle.std.specs.Prelude.{List, [], drop, length, slice_range, ◌∷◌, ◌<◌, ◌≡◌, ◌≤◌, ◌⊎◌, ℕ}

-- Bytes have at most one list of tokens.
abbrev pub TokensAreUnique : Type 0
TokensAreUnique =
    (place : ℕ) (bytes : List ℕ) (tokens others : List Token) → Lexes place bytes tokens
    → Lexes place bytes others → tokens ≡ others

-- Bytes have at most one leftmost error.
abbrev pub FaultsAreUnique : Type 0
FaultsAreUnique =
    (place : ℕ) (bytes : List ℕ) (number other : ℕ) (span at : Span) → Stops place bytes number span
    → Stops place bytes other at → (number ≡ other) × (span ≡ at)

-- Bytes with a list of tokens have no leftmost error.
abbrev pub TokensExcludeFaults : Type 0
TokensExcludeFaults =
    (place : ℕ) (bytes : List ℕ) (tokens : List Token) (number : ℕ) (span : Span)
    → Lexes place bytes tokens → Stops place bytes number span → ⊥

-- All bytes have a list of tokens or a leftmost error.
abbrev pub TokensOrFault : Type 0
TokensOrFault =
    (place : ℕ) (bytes : List ℕ) → ((tokens : List Token) × Lexes place bytes tokens)
    ⊎ ((number : ℕ) × (span : Span) × Stops place bytes number span)

-- The literal of a number is within the limits.
abbrev pub HasSmallLiteral : TokenKind → Type 0
HasSmallLiteral (kinds.Number lit) = IsInLimits lit
HasSmallLiteral kind = Unit {0}

-- `StandInOrder place bytes ts`: the tokens `ts` are at increasing places without overlap, from the
-- index `place` on; the bytes of each span spell its token, and literals are within the limits.
abbrev pub StandInOrder : ℕ → List ℕ → List Token → Type 0
StandInOrder place bytes [] = place ≤ length bytes
StandInOrder place bytes (t ∷ ts) =
    (place ≤ t.span.from) × (t.span.from < t.span.to)
    × IsToken t.kind (slice_range bytes t.span.from t.span.to) (drop t.span.to bytes)
    × HasSmallLiteral t.kind
    × StandInOrder t.span.to bytes ts

-- The tokens of bytes are in order, from index 0 on.
abbrev pub TokensStandInOrder : Type 0
TokensStandInOrder = (bytes : List ℕ) (tokens : List Token) → Lexes 0 bytes tokens
    → StandInOrder 0 bytes tokens

-- There are at most as many tokens as bytes.
abbrev pub TokensAreFew : Type 0
TokensAreFew = (bytes : List ℕ) (tokens : List Token) → Lexes 0 bytes tokens
    → length tokens ≤ length bytes
