-- The errors 1 to 6 of a file: its bytes have no tokens (1 to 3), its tokens spell no file (4), or
-- they exceed a limit (5, 6). The limits and the order of the errors are this project's own.
use Rattle.heyvl_places.specs.declared.spans.Span.{Span}
use Rattle.heyvl_syntax.specs.Beginnings.{IsUnexpected}
use Rattle.heyvl_syntax.specs.Grammar.{IsFile}
use Rattle.heyvl_syntax.specs.Load.{overload}
use Rattle.heyvl_syntax.specs.Procedures.{Procedure}
use Rattle.heyvl_syntax.specs.Tokens.{Lexes, Stops}
use Rattle.heyvl_syntax.specs.declared.keys.Key.TheVariants as keys
use Rattle.heyvl_syntax.specs.declared.tokens.Token.{Token}
use Rattle.heyvl_syntax.specs.declared.tokens.TokenKind.TheVariants as kinds
use Rattle.heyvl_syntax.specs.declared.tokens.TokenKind.{TokenKind}
use Rattle.std.specs.Prelude.{Bool, List, [], count_by, drop, false, length, take, true, ◌+◌, ◌<◌}
use Rattle.std.specs.Prelude.{◌∷◌, ◌≡◌, ◌≤◌, ◌⊎◌, ℕ}

-- The token is `proc` or `coproc`.
abbrev pub is_procedure_key : TokenKind → Bool
is_procedure_key (kinds.Key keys.Proc) = true
is_procedure_key (kinds.Key keys.CoProc) = true
is_procedure_key _ = false

-- The number of tokens that are `proc` or `coproc`.
abbrev pub procedure_count : List Token → ℕ
procedure_count = count_by (λ t. is_procedure_key t.kind)

-- The largest number of procedures of a file.
abbrev pub procedure_limit : ℕ
procedure_limit = 1024

-- The load is at most 200 after each token.
abbrev pub IsLight : List Token → Type 0
IsLight tokens = overload tokens ≡ length tokens

-- There are at most 1,024 procedures.
abbrev pub IsUncrowded : List Token → Type 0
IsUncrowded tokens = procedure_count tokens ≤ procedure_limit

-- The tokens exceed neither limit.
pub record IsWithinLimits (tokens : List Token) : Type 0 where
  pub light : IsLight tokens
  pub uncrowded : IsUncrowded tokens

-- The token at index `i` is the first one after which the load exceeds 200.
pub record IsOverload (tokens : List Token) (i : ℕ) : Type 0 where
  pub inside : i < length tokens
  pub is_first : overload tokens ≡ i

-- The token at index `i` is the 1,025th `proc` or `coproc`.
pub record IsCrowd (tokens : List Token) (i : ℕ) : Type 0 where
  pub inside : i < length tokens
  pub before : procedure_count (take i tokens) ≡ procedure_limit
  pub with_it : procedure_count (take (i + 1) tokens) ≡ procedure_limit + 1

-- `IsTokenFault tokens number i`: the first error of `tokens` has the number `number`, at the token
-- with index `i`. Error 5 precedes error 6, and error 6 precedes error 4, wherever they occur.
abbrev pub IsTokenFault : List Token → ℕ → ℕ → Type 0
IsTokenFault tokens number i =
    ((number ≡ 5) × IsOverload tokens i)
    ⊎ ((number ≡ 6) × IsLight tokens × IsCrowd tokens i)
    ⊎ ((number ≡ 4) × IsWithinLimits tokens × IsUnexpected IsFile tokens i)

-- The place of the first token, or the end of the bytes if there is no token.
abbrev pub place_of_first : List ℕ → List Token → Span
place_of_first bytes [] = record { from = length bytes; to = length bytes }
place_of_first bytes (t ∷ ts) = t.span

-- The place of the token at index `i`. If `i` is the number of tokens, it is the end of the bytes.
abbrev pub token_place : List ℕ → List Token → ℕ → Span
token_place bytes tokens i = place_of_first bytes (drop i tokens)

-- `IsSourceFault bytes number place`: the first error of `bytes` has the number `number` and the
-- place `place`. Errors 1 to 3 precede those of the tokens.
abbrev pub IsSourceFault : List ℕ → ℕ → Span → Type 0
IsSourceFault bytes number place =
    Stops 0 bytes number place
    ⊎ ((tokens : List Token) × (i : ℕ) × Lexes 0 bytes tokens × IsTokenFault tokens number i
    × (place ≡ token_place bytes tokens i))

-- The bytes spell the file and have none of the errors 1 to 6.
pub record IsSource (bytes : List ℕ) (file : List Procedure) : Type 0 where
  pub tokens : List Token
  pub lexes : Lexes 0 bytes tokens
  pub within : IsWithinLimits tokens
  pub is_file : IsFile file tokens

-- Bytes have at most one first error.
abbrev pub SourceFaultsAreUnique : Type 0
SourceFaultsAreUnique =
    (bytes : List ℕ) (number other : ℕ) (place at : Span) → IsSourceFault bytes number place
    → IsSourceFault bytes other at → (number ≡ other) × (place ≡ at)

-- Bytes that spell a file within the limits have no first error.
abbrev pub SourcesHaveNoFault : Type 0
SourcesHaveNoFault = (bytes : List ℕ) (file : List Procedure) (number : ℕ) (place : Span)
    → IsSource bytes file → IsSourceFault bytes number place → ⊥

-- Tokens have at most one first error.
abbrev pub TokenFaultsAreUnique : Type 0
TokenFaultsAreUnique =
    (tokens : List Token) (number other i j : ℕ) → IsTokenFault tokens number i
    → IsTokenFault tokens other j → (number ≡ other) × (i ≡ j)

-- Tokens that spell a file within the limits have no first error.
abbrev pub FilesHaveNoTokenFault : Type 0
FilesHaveNoTokenFault =
    (tokens : List Token) (file : List Procedure) (number i : ℕ) → IsWithinLimits tokens
    → IsFile file tokens → IsTokenFault tokens number i → ⊥

-- The place of a first error begins at a byte of the file, or at its end.
abbrev pub SourceFaultsStandInside : Type 0
SourceFaultsStandInside = (bytes : List ℕ) (number : ℕ) (place : Span)
    → IsSourceFault bytes number place → place.from ≤ length bytes
