-- A shorter list of tokens than one that begins a text begins it too; so at most one index is that
-- of an unexpected token.
use Rattle.heyvl_syntax.specs.Beginnings.{IsBeginning, IsUnexpected}
use Rattle.heyvl_syntax.specs.declared.tokens.Token.{Token}
use Rattle.std.proofs.Common.{List, ap, arith, drop, inl, inr, length, subst, sym, take, ◌++◌, ◌+◌, ◌<◌, ◌∙◌, ◌≡◌, ◌≤◌, ◌⊎◌, ℕ}
use Rattle.std.proofs.lemmas.Bool.{cases_order}
use Rattle.std.proofs.lemmas.List.{append_assoc, take-append-drop, take-take}

-- Two numbers with a property are equal if no two different numbers have it.
pub same_place : (P : ℕ → Type 0) (i j : ℕ) → P i → P j → ((m n : ℕ) → P m → P n → m < n → ⊥) → i ≡ j
same_place P i j s t order = pick (cases_order i j)
  where
    pick : (i ≡ j) ⊎ ((i < j) ⊎ (j < i)) → i ≡ j
    pick (inl e) = e
    pick (inr (inl less)) = absurd (order i j s t less)
    pick (inr (inr less)) = absurd (order j i t s less)

module _ {A : Type 0} (spells : A → List Token → Type 0) (tokens : List Token) where
  pub shorter : (k : ℕ) → IsBeginning spells tokens → IsBeginning spells (take k tokens)
  shorter k h = record {
    whole = h.whole;
    more = drop k tokens ++ h.more;
    spelled = subst (λ (ts : List Token). spells h.whole ts) (sym (sym (append_assoc (take k tokens) (drop k tokens) h.more) ∙ ap (λ ts. ts ++ h.more) (take-append-drop k tokens))) h.spelled;
  }

module _ {A : Type 0} (spells : A → List Token → Type 0) (tokens : List Token) where
  unexpected_order : (i j : ℕ) → IsUnexpected spells tokens i → IsUnexpected spells tokens j → i < j → ⊥
  unexpected_order i j s t less =
      let inside = t.inside in
      let here : i < length tokens = omega arith in
      let within : i + 1 ≤ j = omega arith in
      s.here here (subst (λ (ts : List Token). IsBeginning spells ts) (take-take (i + 1) j tokens within) (shorter spells (take j tokens) (i + 1) t.before))

  pub unexpected_unique : (i j : ℕ) → IsUnexpected spells tokens i → IsUnexpected spells tokens j → i ≡ j
  unexpected_unique i j s t = same_place (λ k. IsUnexpected spells tokens k) i j s t unexpected_order
