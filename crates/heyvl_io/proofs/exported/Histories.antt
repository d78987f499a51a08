-- The history after starts and reads.
use Rattle.std.proofs.Common.{◌≡◌, ℕ, suc, ◌<◌, List, [], ◌∷◌, ◌++◌, length, refl, ap, ◌∙◌, arith, length-append}
use Rattle.std.proofs.lemmas.List.{append-nil}
use Rattle.heyvl_io.specs.History.{Start, History, handed_out, with_bytes, since_start}

pub with_bytes-none : (history : History) → with_bytes history [] ≡ history
with_bytes-none [] = refl
with_bytes-none (s ∷ []) = ap (λ bytes. handed_out s.name bytes ∷ []) (append-nil s.bytes)
with_bytes-none (s ∷ (t ∷ more)) = ap (λ rest. s ∷ rest) (with_bytes-none (t ∷ more))

pub length-with_bytes : (history : History) (bytes : List ℕ) → length (with_bytes history bytes) ≡ length history
length-with_bytes [] bytes = refl
length-with_bytes (s ∷ []) bytes = refl
length-with_bytes (s ∷ (t ∷ more)) bytes = ap (λ n. suc n) (length-with_bytes (t ∷ more) bytes)

pub begun : (history : History) (s : Start) → 0 < length (history ++ s ∷ [])
begun history s = omega (arith, length-append history (s ∷ []))

pub since_start-last : (history : History) (s : Start) → since_start (history ++ s ∷ []) ≡ s.bytes
since_start-last [] s = refl
since_start-last (r ∷ []) s = refl
since_start-last (r ∷ (t ∷ more)) s = since_start-last (t ∷ more) s

pub since_start-with_bytes : (history : History) (bytes : List ℕ) → 0 < length history → since_start (with_bytes history bytes) ≡ since_start history ++ bytes
since_start-with_bytes [] bytes some = absurd (omega arith)
since_start-with_bytes (s ∷ []) bytes some = refl
since_start-with_bytes (s ∷ (t ∷ [])) bytes some = refl
since_start-with_bytes (s ∷ (t ∷ (u ∷ more))) bytes some = since_start-with_bytes (t ∷ (u ∷ more)) bytes (omega arith)

pub with_bytes-last : (history : History) (name before bytes : List ℕ) → with_bytes (history ++ handed_out name before ∷ []) bytes ≡ history ++ handed_out name (before ++ bytes) ∷ []
with_bytes-last [] name before bytes = refl
with_bytes-last (r ∷ []) name before bytes = refl
with_bytes-last (r ∷ (t ∷ more)) name before bytes = ap (λ rest. r ∷ rest) (with_bytes-last (t ∷ more) name before bytes)

pub more_taken : (old between new : History) (name before bytes : List ℕ) → between ≡ old ++ handed_out name before ∷ [] → new ≡ with_bytes between bytes → new ≡ old ++ handed_out name (before ++ bytes) ∷ []
more_taken old between new name before bytes e f = f ∙ ap (λ h. with_bytes h bytes) e ∙ with_bytes-last old name before bytes

pub length-since_start : (old new : History) (name bytes : List ℕ) → new ≡ old ++ handed_out name bytes ∷ [] → length (since_start new) ≡ length bytes
length-since_start old new name bytes e = ap (λ h. length (since_start h)) e ∙ ap length (since_start-last old (handed_out name bytes))
