-- The errors 1 to 6 of small texts and tokens, and texts and tokens beside them without an error.
use Rattle.heyvl_places.specs.declared.spans.Span.{Span}
use Rattle.heyvl_syntax.proofs.FrontIs.{front-is}
use Rattle.heyvl_syntax.proofs.OneFault.{crowd_or_few, light_or_over, no_token_fault}
use Rattle.heyvl_syntax.proofs.OneFault.{source_faults_unique}
use Rattle.heyvl_syntax.proofs.SourceFaultRows.{crowd_1025, light_200, overload_201, paren, procs}
use Rattle.heyvl_syntax.proofs.SourceFaultRows.{key, span, uncrowded_1024}
use Rattle.heyvl_syntax.proofs.Unique.{lexes_no_stop}
use Rattle.heyvl_syntax.specs.Comments.{closes_at}
use Rattle.heyvl_syntax.specs.SourceFaults.{IsCrowd, IsOverload, IsSource, IsSourceFault}
use Rattle.heyvl_syntax.specs.SourceFaults.{IsTokenFault}
use Rattle.heyvl_syntax.specs.Literals.{literal}
use Rattle.heyvl_syntax.specs.Tokens.Part.{comment, token, white}
use Rattle.heyvl_syntax.specs.Tokens.{IsLexStop, Lexes, Stops}
use Rattle.heyvl_syntax.specs.declared.keys.Key.TheVariants as keys
use Rattle.heyvl_syntax.specs.declared.stops.LexStop.TheVariants as stops
use Rattle.heyvl_syntax.specs.declared.tokens.TokenKind.TheVariants as kinds
use Rattle.std.proofs.Common.{List, [], arith, codes, drop, false, inl, inr, refl, replicate, suc}
use Rattle.std.proofs.Common.{zero, ◌++◌, ◌<◌, ◌∷◌, ◌≡◌, ℕ}

-- ---- Error 1: no token begins with a byte

unknown_byte : Stops 0 (codes " #") 1 (span 1 2)
unknown_byte = record {
  parts = white ∷ [];
  stops = (1, (refl, refl), (1, front-is (codes "#"), refl));
}

-- It is the error of the file, and its only one.
unknown_byte_of_file : IsSourceFault (codes " #") 1 (span 1 2)
unknown_byte_of_file = inl unknown_byte

only_error : (number : ℕ) (place : Span) → IsSourceFault (codes " #") number place → number ≡ 1
only_error number place fault =
    (source_faults_unique (codes " #") number 1 place (span 1 2) fault unknown_byte_of_file).0

-- ---- Error 2: a comment is not closed

open_comment : Stops 0 (codes "/*/") 2 (span 0 2)
open_comment = record { parts = []; stops = (2, front-is (codes "/*/"), refl) }

-- ---- Error 3: a number is too large

-- The number 2^127.
abbrev too_large : List ℕ
too_large = codes "170141183460469231731687303715884105728"

large_number : Stops 0 too_large 3 (span 0 39)
large_number = record { parts = []; stops = (39, front-is too_large, refl) }

large_number_is_a_cause : IsLexStop too_large (stops.Fault 3 (span 0 39))
large_number_is_a_cause = large_number

-- ---- None of the errors 1 to 3

-- The identifier `a`, a closed comment, and the largest number.
word_lexes : Lexes 0 (codes "a") (record { kind = kinds.Word (codes "a"); span = span 0 1 } ∷ [])
word_lexes =
    let (outside, longest, small) = front-is (codes "a") in
    record {
      parts = token (record { kind = kinds.Word (codes "a"); span = span 0 1 }) ∷ [];
      splits = (1, (outside, longest, small, refl), refl);
      are_tokens = refl;
    }

comment_lexes : Lexes 0 (codes "/*/*/") []
comment_lexes = record {
  parts = comment ∷ [];
  splits = (
    5,
    inr (record { opens = refl; inner = 1; closes = refl; first = first; ends = refl }),
    refl,
  );
  are_tokens = refl;
}
  where
    first : (k : ℕ) → k < 1 → closes_at (drop 2 (codes "/*/*/")) k ≡ false
    first zero less = refl
    first (suc k) less = absurd (omega arith)

-- The number 2^127 - 1.
abbrev largest : List ℕ
largest = codes "170141183460469231731687303715884105727"

number_lexes :
    Lexes 0 largest (record { kind = kinds.Number (literal largest); span = span 0 39 } ∷ [])
number_lexes =
    let (outside, longest, small) = front-is largest in
    record {
      parts = token (record { kind = kinds.Number (literal largest); span = span 0 39 }) ∷ [];
      splits = (39, (outside, longest, small, refl), refl);
      are_tokens = refl;
    }

no_unknown_byte : (number : ℕ) (place : Span) → Stops 0 (codes "a") number place → ⊥
no_unknown_byte number place = lexes_no_stop 0 (codes "a") _ number place word_lexes

no_open_comment : (number : ℕ) (place : Span) → Stops 0 (codes "/*/*/") number place → ⊥
no_open_comment number place = lexes_no_stop 0 (codes "/*/*/") _ number place comment_lexes

no_large_number : (number : ℕ) (place : Span) → Stops 0 largest number place → ⊥
no_large_number number place = lexes_no_stop 0 largest _ number place number_lexes

-- ---- Errors 5 and 6: the limits

-- 201 open parentheses are error 5, and 200 are not.
too_deep : IsTokenFault (replicate 201 paren) 5 200
too_deep = inl (refl, overload_201)

not_too_deep : (i : ℕ) → IsOverload (replicate 200 paren) i → ⊥
not_too_deep i = light_or_over (replicate 200 paren) i light_200

-- 1,025 procedures are error 6, and 1,024 are not.
too_many : IsTokenFault (procs 1024 ++ key keys.CoProc (span 4 10) ∷ []) 6 1024
too_many = inr (inl (refl, refl, crowd_1025))

not_too_many : (i : ℕ) → IsCrowd (procs 1024) i → ⊥
not_too_many i = crowd_or_few (procs 1024) i uncrowded_1024

-- No token at all spells the file without procedures, which has no error.
empty_has_none : (number i : ℕ) → IsTokenFault [] number i → ⊥
empty_has_none number i =
    no_token_fault [] [] number i (record { light = refl; uncrowded = omega arith }) refl

-- The empty text is a file.
empty_is_a_source : IsSource [] []
empty_is_a_source = record {
  tokens = [];
  lexes = record { parts = []; splits = refl; are_tokens = refl };
  within = record { light = refl; uncrowded = omega arith };
  is_file = refl;
}
