-- The indices of reserved tokens, among the tokens visited so far.
use Rattle.heyvl_syntax.specs.declared.tokens.Token.{Token}
use Rattle.guarded_commands.specs.ReservedNames.{IsReservedAt, is_reserved}
use Rattle.std.proofs.Common.{List, ap, arith, drop, false, get_or, inl, inr, length, length-drop, subst, ◌+◌, ◌<◌, ◌∷◌, ◌≡◌, ◌≤◌, ◌⊎◌, ℕ}
use Rattle.std.proofs.Math.Seq.{drop-cons}
use Rattle.std.proofs.lemmas.Bool.{cases_lt}

here : (ts : List Token) (i : ℕ) (t u : Token) (more : List Token) → i < length ts → u ≡ get_or ts i u → drop i ts ≡ t ∷ more → u ≡ t
here ts i t u more inside is stands = let front = drop-cons ts i u inside in cc

inside_list : (ts : List Token) (i : ℕ) (t : Token) (more : List Token) → drop i ts ≡ t ∷ more → i < length ts
inside_list ts i t more stands = omega (arith, length-drop i ts, ap length stands)

pub unreserved_more : (n i : ℕ) (ts : List Token) (u : Token) → i < length ts → u ≡ get_or ts i u → is_reserved n i u.kind ≡ false
    → ((j : ℕ) → j < i → IsReservedAt n ts j → ⊥) → (j : ℕ) → j < i + 1 → IsReservedAt n ts j → ⊥
unreserved_more n i ts u inside is free before j less r = pick (cases_lt j i)
  where
    pick : (j < i) ⊎ (i ≤ j) → ⊥
    pick (inl a) = before j a r
    pick (inr b) =
        let same : j ≡ i = omega arith in
        let s : IsReservedAt n ts i = subst (λ (k : ℕ). IsReservedAt n ts k) same r in
        let token = here ts i s.token u s.more inside is s.stands in
        let e : is_reserved n i u.kind ≡ is_reserved n i s.token.kind = ap (λ (v : Token). is_reserved n i v.kind) token in
        let t = s.reserved in
        cc

pub unreserved_all : (n i : ℕ) (ts : List Token) → length ts ≤ i → ((j : ℕ) → j < i → IsReservedAt n ts j → ⊥) → (j : ℕ) → IsReservedAt n ts j → ⊥
unreserved_all n i ts all before j r = let inside = inside_list ts j r.token r.more r.stands in before j (omega arith) r
