-- The tokens of HeyVL: how bytes are split into white space, comments and longest tokens, and the
-- errors that prevent it.
use Rattle.heyvl_places.specs.declared.spans.Span.{Span}
use Rattle.heyvl_syntax.specs.Bytes.{ends_word, is_letter, is_white, is_word_byte}
use Rattle.heyvl_syntax.specs.Comments.{IsBlockComment, IsLineComment, IsOpenComment, opens_comment}
use Rattle.heyvl_syntax.specs.Keys.{key_text}
use Rattle.heyvl_syntax.specs.Literals.{IsNumber, is_too_large, literal}
use Rattle.heyvl_syntax.specs.Marks.{mark_text}
use Rattle.heyvl_syntax.specs.declared.keys.Key.{Key}
use Rattle.heyvl_syntax.specs.declared.stops.LexStop.TheVariants as stops
use Rattle.heyvl_syntax.specs.declared.stops.LexStop.{LexStop}
use Rattle.heyvl_syntax.specs.declared.tokens.Token.{Token}
use Rattle.heyvl_syntax.specs.declared.tokens.TokenKind.TheVariants as kinds
use Rattle.heyvl_syntax.specs.declared.tokens.TokenKind.{TokenKind}
use Rattle.std.specs.List.{list_all}
use Rattle.std.specs.Prelude.{Bool, List, [], drop, false, length, take, true, ◌+◌, ◌<◌, ◌∷◌, ◌≡◌}
use Rattle.std.specs.Prelude.{◌≤◌, ◌⊎◌, ℕ}

-- The text is a letter or `_`, followed by letters, digits and `_`.
abbrev pub IsWord : List ℕ → Type 0
IsWord [] = ⊥
IsWord (b ∷ bs) = (is_letter b ≡ true) × (list_all is_word_byte bs ≡ true)

-- `IsToken kind text rest`: `text` is a token of kind `kind` if `rest` follows it. An identifier is
-- not the text of a keyword, and a keyword is not followed by a letter, a digit or `_`. So `proc`
-- is no keyword before `1`, since `proc1` is an identifier.
abbrev pub IsToken : TokenKind → List ℕ → List ℕ → Type 0
IsToken (kinds.Word name) text rest =
    (name ≡ text) × IsWord text × ((key : Key) → key_text key ≡ text → ⊥)
IsToken (kinds.Number lit) text rest = (lit ≡ literal text) × IsNumber text
IsToken (kinds.Key key) text rest = (text ≡ key_text key) × (ends_word rest ≡ true)
IsToken (kinds.Mark mark) text rest = text ≡ mark_text mark

-- The first `n` bytes are a token of kind `kind`.
abbrev pub IsTokenOf : List ℕ → TokenKind → ℕ → Type 0
IsTokenOf bytes kind n = (n ≤ length bytes) × IsToken kind (take n bytes) (drop n bytes)

-- The longest token with which the bytes begin has kind `kind` and `n` bytes. That of `<== a` is
-- the symbol `<==`, with 3 bytes.
pub record IsLongest (bytes : List ℕ) (kind : TokenKind) (n : ℕ) : Type 0 where
  pub token : IsTokenOf bytes kind n
  pub longest : (other : TokenKind) (m : ℕ) → n < m → IsTokenOf bytes other m → ⊥

-- The token is a number whose text exceeds the limits of literals.
abbrev pub is_beyond_limits : TokenKind → List ℕ → Bool
is_beyond_limits (kinds.Number lit) text = is_too_large text
is_beyond_limits kind text = false

-- The bytes begin with a byte of white space.
abbrev pub IsWhite : List ℕ → Type 0
IsWhite [] = ⊥
IsWhite (b ∷ bs) = is_white b ≡ true

-- The span of `n` bytes from the index `place` on.
abbrev pub span_of : ℕ → ℕ → Span
span_of place n = record { from = place; to = place + n }

-- A part of the bytes: one byte of white space, a comment or a token.
pub data Part : Type 0 where
  white : Part
  comment : Part
  token : Token → Part

-- `IsPart place bytes part n`: `bytes`, whose first byte has the index `place` in the file, begin
-- with `part`, which has `n` bytes.
abbrev pub IsPart : ℕ → List ℕ → Part → ℕ → Type 0
IsPart place bytes white n = IsWhite bytes × (n ≡ 1)
IsPart place bytes comment n = IsLineComment bytes n ⊎ IsBlockComment bytes n
IsPart place bytes (token t) n =
    (opens_comment bytes ≡ false) × IsLongest bytes t.kind n
    × (is_beyond_limits t.kind (take n bytes) ≡ false)
    × (t.span ≡ span_of place n)

-- `Splits place bytes parts`: `bytes`, whose first byte has the index `place` in the file, are
-- exactly `parts`, one after another.
abbrev pub Splits : ℕ → List ℕ → List Part → Type 0
Splits place bytes [] = bytes ≡ []
Splits place bytes (part ∷ parts) = (n : ℕ) × IsPart place bytes part n
    × Splits (place + n) (drop n bytes) parts

-- The tokens among the parts.
abbrev pub tokens_of : List Part → List Token
tokens_of [] = []
tokens_of (white ∷ parts) = tokens_of parts
tokens_of (comment ∷ parts) = tokens_of parts
tokens_of (token t ∷ parts) = t ∷ tokens_of parts

-- `bytes`, whose first byte has the index `place` in the file, are split into white space, comments
-- and exactly `tokens`.
pub record Lexes (place : ℕ) (bytes : List ℕ) (tokens : List Token) : Type 0 where
  pub parts : List Part
  pub splits : Splits place bytes parts
  pub are_tokens : tokens_of parts ≡ tokens

-- The bytes are not empty, and do not begin with a token, white space or a comment.
pub record IsNoPart (bytes : List ℕ) : Type 0 where
  pub more : 0 < length bytes
  pub no_white : IsWhite bytes → ⊥
  pub no_comment : opens_comment bytes ≡ false
  pub no_token : (kind : TokenKind) (n : ℕ) → IsTokenOf bytes kind n → ⊥

-- The longest token with which the bytes begin is a number of `n` bytes that exceeds the limits of
-- literals.
pub record IsLargeNumber (bytes : List ℕ) (n : ℕ) : Type 0 where
  pub kind : TokenKind
  pub no_comment : opens_comment bytes ≡ false
  pub longest : IsLongest bytes kind n
  pub beyond : is_beyond_limits kind (take n bytes) ≡ true

-- `IsFault bytes number n`: `bytes` begin with the error `number`, which covers `n` bytes: 1, a
-- byte at which no white space, comment or token begins; 2, a `/*` without `*/`; 3, a number that
-- exceeds the limits.
abbrev pub IsFault : List ℕ → ℕ → ℕ → Type 0
IsFault bytes number n =
    ((number ≡ 1) × (n ≡ 1) × IsNoPart bytes)
    ⊎ ((number ≡ 2) × (n ≡ 2) × IsOpenComment bytes)
    ⊎ ((number ≡ 3) × IsLargeNumber bytes n)

-- `StopsAfter place bytes parts number span`: `bytes`, whose first byte has the index `place` in
-- the file, begin with `parts`, followed by the error `number` at `span`.
abbrev pub StopsAfter : ℕ → List ℕ → List Part → ℕ → Span → Type 0
StopsAfter place bytes [] number span = (n : ℕ) × IsFault bytes number n × (span ≡ span_of place n)
StopsAfter place bytes (part ∷ parts) number span =
    (n : ℕ) × IsPart place bytes part n × StopsAfter (place + n) (drop n bytes) parts number span

-- The leftmost error of `bytes`, whose first byte has the index `place` in the file, has the number
-- `number` and the span `span`.
pub record Stops (place : ℕ) (bytes : List ℕ) (number : ℕ) (span : Span) : Type 0 where
  pub parts : List Part
  pub stops : StopsAfter place bytes parts number span

-- Why lexing stops: the leftmost error, or `AllocError`.
abbrev pub IsLexStop : List ℕ → LexStop → Type 0
IsLexStop bytes (stops.Fault number span) = Stops 0 bytes number span
IsLexStop bytes (stops.Memory error) = Unit {0}

-- Lexing stopped because memory ran out.
abbrev pub IsMemory : LexStop → Type 0
IsMemory (stops.Fault number span) = ⊥
IsMemory (stops.Memory error) = Unit {0}

-- Lexing stopped with the error `number` at `span`, or because memory ran out.
abbrev pub IsFaultOrMemory : ℕ → Span → LexStop → Type 0
IsFaultOrMemory number span (stops.Fault other at) = (other ≡ number) × (at ≡ span)
IsFaultOrMemory number span (stops.Memory error) = Unit {0}
