-- The place of a row among rows.
use Rattle.std.proofs.Common.{◌≡◌, ℕ, ◌<◌, ◌≤◌, List, [], ◌∷◌, ◌++◌, length, get_or, refl, sym, ap, ◌∙◌, arith, true, false, cond}
use Rattle.std.proofs.Math.ListN.{set}
use Rattle.std.proofs.lemmas.List.{get_or_default}
use Prim.Native.Nat.{zero, suc}
use Rattle.linear_elim.specs.Joins.{Derived}
use Rattle.linear_rows.specs.SameTerms.{same_terms}
use Rattle.linear_elim.specs.Steps.{is_stronger, put_row}
use Rattle.linear_elim.specs.internal.Places.{IsPlace}

put_absent : (r : Derived) (ks : List Derived) → ((j : ℕ) → j < length ks → same_terms (get_or ks j r).row.terms r.row.terms ≡ false) → put_row r ks ≡ ks ++ r ∷ []
unfolding put_row
put_absent r [] h = refl
put_absent r (k ∷ ks) h = ap (λ b. cond b (cond (is_stronger r.row k.row) r k ∷ ks) (k ∷ put_row r ks)) (h zero (omega arith)) ∙ ap (λ xs. k ∷ xs) (put_absent r ks (λ j l. h (suc j) (omega (arith, l))))

put_here : (r : Derived) (ks : List Derived) (i : ℕ) → i < length ks → ((j : ℕ) → j < i → same_terms (get_or ks j r).row.terms r.row.terms ≡ false) → same_terms (get_or ks i r).row.terms r.row.terms ≡ true → put_row r ks ≡ set ks i (cond (is_stronger r.row (get_or ks i r).row) r (get_or ks i r))
unfolding put_row
put_here r [] i l b h = absurd (omega (arith, l))
put_here r (k ∷ ks) zero l b h = ap (λ c. cond c (cond (is_stronger r.row k.row) r k ∷ ks) (k ∷ put_row r ks)) h
put_here r (k ∷ ks) (suc i) l b h = ap (λ c. cond c (cond (is_stronger r.row k.row) r k ∷ ks) (k ∷ put_row r ks)) (b zero (omega arith)) ∙ ap (λ xs. k ∷ xs) (put_here r ks i (omega (arith, l)) (λ j m. b (suc j) (omega (arith, m))) h)

set_same : (ks : List Derived) (i : ℕ) (d : Derived) → i < length ks → set ks i (get_or ks i d) ≡ ks
set_same [] i d l = absurd (omega (arith, l))
set_same (k ∷ ks) zero d l = refl
set_same (k ∷ ks) (suc i) d l = ap (λ xs. k ∷ xs) (set_same ks i d (omega (arith, l)))

pub put_last : (r : Derived) (ks now : List Derived) (i : ℕ) → IsPlace r ks i → i ≡ length ks → now ≡ ks ++ r ∷ [] → now ≡ put_row r ks
put_last r ks now i p e h = h ∙ sym (put_absent r ks (λ j l. p.before j (omega (arith, l, e))))

pub strictly : (i n : ℕ) → i ≤ n → (i ≡ n → ⊥) → i < n
strictly i n l n' = omega (arith, l, n')

pub put_stronger : (r k : Derived) (ks : List Derived) (i : ℕ) → IsPlace r ks i → (i ≡ length ks → ⊥) → k ≡ get_or ks i k → is_stronger r.row k.row ≡ true → set ks i r ≡ put_row r ks
put_stronger r k ks i p n e s = let l = strictly i (length ks) p.within n in ap (λ b. set ks i (cond b r (get_or ks i r))) (sym (ap (λ d. is_stronger r.row d.row) (get_or_default ks i r k l ∙ sym e) ∙ s)) ∙ sym (put_here r ks i l p.before (p.here l))

pub put_weaker : (r k : Derived) (ks : List Derived) (i : ℕ) → IsPlace r ks i → (i ≡ length ks → ⊥) → k ≡ get_or ks i k → is_stronger r.row k.row ≡ false → ks ≡ put_row r ks
put_weaker r k ks i p n e s = let l = strictly i (length ks) p.within n in sym (set_same ks i r l) ∙ ap (λ b. set ks i (cond b r (get_or ks i r))) (sym (ap (λ d. is_stronger r.row d.row) (get_or_default ks i r k l ∙ sym e) ∙ s)) ∙ sym (put_here r ks i l p.before (p.here l))
