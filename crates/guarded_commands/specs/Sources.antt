-- The file that the bytes of a program are translated to, or their first error. This project's own.
use Rattle.heyvl_places.specs.declared.spans.Span.{Span}
use Rattle.heyvl_syntax.specs.Procedures.{Procedure}
use Rattle.heyvl_syntax.specs.SourceFaults.{token_place}
use Rattle.heyvl_syntax.specs.Tokens.{Lexes, Stops}
use Rattle.heyvl_syntax.specs.declared.tokens.Token.{Token}
use Rattle.guarded_commands.specs.TranslationFaults.{IsTranslationFault}
use Rattle.guarded_commands.specs.Translations.{IsTranslation}
use Rattle.std.specs.Prelude.{List, ◌≡◌, ℕ}

-- `IsPgclSource bytes file`: the lexer splits `bytes` into tokens, and these are translated to
-- `file`.
pub record IsPgclSource (bytes : List ℕ) (file : List Procedure) : Type 0 where
  pub tokens : List Token
  pub lexes : Lexes 0 bytes tokens
  pub translation : IsTranslation tokens file

-- `IsPgclFault bytes number place`: the first error of `bytes` is `number` at `place`. It is 1, 2
-- or 3 if they have no tokens, otherwise 5, 30 or 31 if the tokens are not translated.
pub data IsPgclFault (bytes : List ℕ) (number : ℕ) (place : Span) : Type 0 where
  unlexed : Stops 0 bytes number place → IsPgclFault bytes number place
  untranslated : (tokens : List Token) (i : ℕ) → Lexes 0 bytes tokens
      → IsTranslationFault tokens number i → place ≡ token_place bytes tokens i
      → IsPgclFault bytes number place

-- Bytes are translated to at most one file.
abbrev pub PgclSourceIsUnique : Type 0
PgclSourceIsUnique = (bytes : List ℕ) (file other : List Procedure) → IsPgclSource bytes file
    → IsPgclSource bytes other → file ≡ other

-- Bytes have at most one first error.
abbrev pub PgclFaultIsUnique : Type 0
PgclFaultIsUnique =
    (bytes : List ℕ) (number other : ℕ) (place at : Span) → IsPgclFault bytes number place
    → IsPgclFault bytes other at → (number ≡ other) × (place ≡ at)

-- Bytes that are translated to a file have no first error.
abbrev pub PgclSourcesHaveNoFault : Type 0
PgclSourcesHaveNoFault = (bytes : List ℕ) (file : List Procedure) (number : ℕ) (place : Span)
    → IsPgclSource bytes file → IsPgclFault bytes number place → ⊥
