-- A file has at most one first error, and none if it is spelled within the limits.
use Rattle.heyvl_places.specs.declared.spans.Span.{Span}
use Rattle.heyvl_syntax.proofs.Beginnings.{same_place, unexpected_unique}
use Rattle.heyvl_syntax.proofs.Unique.{lexes_no_stop, lexes_unique, stops_unique}
use Rattle.heyvl_syntax.specs.Grammar.{IsFile}
use Rattle.heyvl_syntax.specs.Procedures.{Procedure}
use Rattle.heyvl_syntax.specs.SourceFaults.{IsCrowd, IsLight, IsOverload, IsSource, IsSourceFault, IsTokenFault, IsUncrowded, IsWithinLimits, is_procedure_key, procedure_count, token_place}
use Rattle.heyvl_syntax.specs.declared.tokens.Token.{Token}
use Rattle.std.proofs.Common.{List, ap, arith, cond, inl, inr, subst, sym, take, ◌+◌, ◌<◌, ◌∙◌, ◌≡◌, ◌≤◌, ℕ}
use Rattle.std.proofs.lemmas.List.Sums.{sum_by-take-le}
use Rattle.std.proofs.lemmas.List.{take-take}

pub light_or_over : (tokens : List Token) (i : ℕ) → IsLight tokens → IsOverload tokens i → ⊥
light_or_over tokens i light over = let e = over.is_first in let h = over.inside in absurd (omega arith)

count_front : (tokens : List Token) (i : ℕ) → procedure_count (take i tokens) ≤ procedure_count tokens
count_front tokens i = sum_by-take-le (λ t. cond (is_procedure_key t.kind) 1 0) tokens i

pub crowd_or_few : (tokens : List Token) (i : ℕ) → IsUncrowded tokens → IsCrowd tokens i → ⊥
crowd_or_few tokens i few crowd = let n = count_front tokens (i + 1) in let e = crowd.with_it in absurd (omega arith)

crowd_order : (tokens : List Token) (i j : ℕ) → IsCrowd tokens i → IsCrowd tokens j → i < j → ⊥
crowd_order tokens i j s t less =
    let within : i + 1 ≤ j = omega arith in
    let n = count_front (take j tokens) (i + 1) in
    let e : procedure_count (take (i + 1) (take j tokens)) ≡ procedure_count (take (i + 1) tokens) = ap procedure_count (take-take (i + 1) j tokens within) in
    let a = s.with_it in
    let b = t.before in
    absurd (omega arith)

pub token_faults_unique : (tokens : List Token) (number other i j : ℕ) → IsTokenFault tokens number i → IsTokenFault tokens other j → (number ≡ other) × (i ≡ j)
token_faults_unique tokens number other i j (inl (n, s)) (inl (m, t)) = (n ∙ sym m, sym s.is_first ∙ t.is_first)
token_faults_unique tokens number other i j (inl (n, s)) (inr (inl (m, light, t))) = absurd (light_or_over tokens i light s)
token_faults_unique tokens number other i j (inl (n, s)) (inr (inr (m, within, t))) = absurd (light_or_over tokens i within.light s)
token_faults_unique tokens number other i j (inr (inl (n, light, s))) (inl (m, t)) = absurd (light_or_over tokens j light t)
token_faults_unique tokens number other i j (inr (inl (n, light, s))) (inr (inl (m, lit, t))) = (n ∙ sym m, same_place (λ k. IsCrowd tokens k) i j s t (crowd_order tokens))
token_faults_unique tokens number other i j (inr (inl (n, light, s))) (inr (inr (m, within, t))) = absurd (crowd_or_few tokens i within.uncrowded s)
token_faults_unique tokens number other i j (inr (inr (n, within, s))) (inl (m, t)) = absurd (light_or_over tokens j within.light t)
token_faults_unique tokens number other i j (inr (inr (n, within, s))) (inr (inl (m, light, t))) = absurd (crowd_or_few tokens j within.uncrowded t)
token_faults_unique tokens number other i j (inr (inr (n, within, s))) (inr (inr (m, inside, t))) = (n ∙ sym m, unexpected_unique IsFile tokens i j s t)

pub no_token_fault : (tokens : List Token) (file : List Procedure) (number i : ℕ) → IsWithinLimits tokens → IsFile file tokens → IsTokenFault tokens number i → ⊥
no_token_fault tokens file number i within spelled (inl (n, s)) = light_or_over tokens i within.light s
no_token_fault tokens file number i within spelled (inr (inl (n, light, s))) = crowd_or_few tokens i within.uncrowded s
no_token_fault tokens file number i within spelled (inr (inr (n, inside, s))) = s.none file spelled

pub source_faults_unique : (bytes : List ℕ) (number other : ℕ) (place at : Span) → IsSourceFault bytes number place → IsSourceFault bytes other at → (number ≡ other) × (place ≡ at)
source_faults_unique bytes number other place at (inl s) (inl t) = stops_unique 0 bytes number other place at s t
source_faults_unique bytes number other place at (inl s) (inr (tokens, i, lexes, fault, e)) = absurd (lexes_no_stop 0 bytes tokens number place lexes s)
source_faults_unique bytes number other place at (inr (tokens, i, lexes, fault, e)) (inl t) = absurd (lexes_no_stop 0 bytes tokens other at lexes t)
source_faults_unique bytes number other place at (inr (tokens, i, lexes, fault, e)) (inr (others, j, splits, found, d)) =
    let same : tokens ≡ others = lexes_unique 0 bytes tokens others lexes splits in
    let both = token_faults_unique tokens number other i j fault (subst (λ (ts : List Token). IsTokenFault ts other j) (sym same) found) in
    (both.0, e ∙ ap (λ k. token_place bytes tokens k) both.1 ∙ ap (λ ts. token_place bytes ts j) same ∙ sym d)

pub no_source_fault : (bytes : List ℕ) (file : List Procedure) (number : ℕ) (place : Span) → IsSource bytes file → IsSourceFault bytes number place → ⊥
no_source_fault bytes file number place source (inl s) = lexes_no_stop 0 bytes source.tokens number place source.lexes s
no_source_fault bytes file number place source (inr (tokens, i, lexes, fault, e)) =
    let same : tokens ≡ source.tokens = lexes_unique 0 bytes tokens source.tokens lexes source.lexes in
    no_token_fault source.tokens file number i source.within source.is_file (subst (λ (ts : List Token). IsTokenFault ts number i) same fault)
