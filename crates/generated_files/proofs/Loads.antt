-- The load of a text, by the kinds of its tokens, and the number of its procedures.
use Rattle.generated_files.proofs.Spread.{Spots, spread}
use Rattle.heyvl_syntax.proofs.exported.Runs.{and_left, and_right}
use Rattle.heyvl_syntax.specs.Load.{changed, effect, load, loads}
use Rattle.heyvl_syntax.specs.Productions.{at}
use Rattle.heyvl_syntax.specs.SourceFaults.{is_procedure_key, procedure_count}
use Rattle.heyvl_syntax.specs.declared.tokens.Token.{Token}
use Rattle.heyvl_syntax.specs.declared.tokens.TokenKind.{TokenKind}
use Rattle.std.proofs.Common.{Bool, List, [], ap, arith, cond, length, nat_lt, not, refl, suc, true, zero, ◌&&◌, ◌++◌, ◌+◌, ◌∙◌, ◌∷◌, ◌≡◌, ℕ}
use Rattle.std.proofs.lemmas.List.Sums.{sum_by-cons}
use Rattle.std.specs.List.{position_or_len}

-- The counts of the load after tokens of these kinds.
abbrev pub counts_behind : List ℕ → List TokenKind → List ℕ
counts_behind counts [] = counts
counts_behind counts (k ∷ ks) = counts_behind (changed counts (effect k)) ks

-- The load is at most 200 after each token of these kinds.
abbrev pub is_light : List ℕ → List TokenKind → Bool
is_light counts [] = true
is_light counts (k ∷ ks) = not (nat_lt 200 (load (changed counts (effect k)))) && is_light (changed counts (effect k)) ks

pub light_tokens : (counts : List ℕ) (s : Spots) (ks : List TokenKind) → is_light counts ks ≡ true → position_or_len (nat_lt 200) (loads counts (spread s ks)) ≡ length (spread s ks)
light_tokens counts s [] h = refl
light_tokens counts s (k ∷ ks) h =
    let after = changed counts (effect k) in
    let here = and_left (not (nat_lt 200 (load after))) (is_light after ks) h in
    let later = light_tokens after (λ j. s (suc j)) ks (and_right (not (nat_lt 200 (load after))) (is_light after ks) h) in
    rw (here, later) (omega arith)

pub light_append : (counts : List ℕ) (ks ls : List TokenKind) → is_light counts ks ≡ true → is_light (counts_behind counts ks) ls ≡ true → is_light counts (ks ++ ls) ≡ true
light_append counts [] ls h g = g
light_append counts (k ∷ ks) ls h g =
    let after = changed counts (effect k) in
    rw (and_left (not (nat_lt 200 (load after))) (is_light after ks) h) (light_append after ks ls (and_right (not (nat_lt 200 (load after))) (is_light after ks) h) g)

pub counts_append : (counts : List ℕ) (ks ls : List TokenKind) → counts_behind counts (ks ++ ls) ≡ counts_behind (counts_behind counts ks) ls
counts_append counts [] ls = refl
counts_append counts (k ∷ ks) ls = counts_append (changed counts (effect k)) ks ls

-- The number of kinds that begin a procedure.
abbrev pub heads : List TokenKind → ℕ
heads [] = 0
heads (k ∷ ks) = cond (is_procedure_key k) 1 0 + heads ks

pub heads_append : (ks ls : List TokenKind) → heads (ks ++ ls) ≡ heads ks + heads ls
heads_append [] ls = omega arith
heads_append (k ∷ ks) ls = let e = heads_append ks ls in omega arith

pub count_heads : (s : Spots) (ks : List TokenKind) → procedure_count (spread s ks) ≡ heads ks
count_heads s [] = refl
count_heads s (k ∷ ks) =
    sum_by-cons (λ (t : Token). cond (is_procedure_key t.kind) 1 0) (at k (s zero)) (spread (λ j. s (suc j)) ks)
    ∙ ap (λ (n : ℕ). cond (is_procedure_key k) 1 0 + n) (count_heads (λ j. s (suc j)) ks)
