-- The search for rows by their fingerprints.
use Rattle.std.proofs.Common.{◌≡◌, ℕ, ◌+◌, ◌<◌, ◌≤◌, List, [], ◌∷◌, ◌++◌, length, get_or, drop, refl, sym, ap, subst, ◌∙◌, arith, Bool, true, false, cond}
use Rattle.std.proofs.Math.ListN.{set}
use Rattle.std.specs.Prelude.{ℤ, nat_eq, Option, Some, None, is_some}
use Rattle.std.specs.Int.{w64, cast_unsigned}
use Rattle.std.specs.Option.{option_map}
use Rattle.std.specs.Map.{lookup}
use Rattle.std.specs.HashMap.{HashMap, get, Updates}
use Rattle.std.proofs.lemmas.Bool.{eqb-true, eqb-false}
use Prim.Native.Nat.{zero, suc}
use Rattle.linear_elim.specs.Joins.{Derived}
use Rattle.linear_rows.specs.SameTerms.{same_terms}
use Rattle.linear_elim.specs.internal.Places.{IsPlace}
use Rattle.linear_elim.specs.internal.Fingerprints.{hashed, hashed_all, fingerprint, first_with, ArePlaces}
use Rattle.linear_rows.proofs.exported.SameTerms.{same_terms-is}
use Rattle.linear_elim.proofs.Places.{strictly}
use Rattle.linear_elim.proofs.JoinSequences.{rest_end}

pub one_more : (ts : List (ℕ × ℤ)) (i a : ℕ) (t : ℕ × ℤ) (h n f : ℕ) → drop i ts ≡ t ∷ drop (i + 1) ts → h ≡ hashed a t.0 → n ≡ hashed h (cast_unsigned w64 t.1) → hashed_all a (drop i ts) ≡ f → hashed_all n (drop (i + 1) ts) ≡ f
unfolding hashed_all
one_more ts i a t h n f e p q k = ap (λ m. hashed_all m (drop (i + 1) ts)) (q ∙ ap (λ m. hashed m (cast_unsigned w64 t.1)) p) ∙ ap (hashed_all a) (sym e) ∙ k

pub all_hashed : (ts : List (ℕ × ℤ)) (i a : ℕ) → length ts ≤ i → hashed_all a (drop i ts) ≡ fingerprint ts → a ≡ fingerprint ts
unfolding hashed_all
all_hashed ts i a e h = ap (hashed_all a) (sym (rest_end ts i e)) ∙ h

-- ---- The first row with a fingerprint

apart : (a b : List (ℕ × ℤ)) → nat_eq (fingerprint a) (fingerprint b) ≡ false → same_terms a b ≡ false
apart a b n = go (same_terms a b) refl
  where
    go : (s : Bool) → same_terms a b ≡ s → s ≡ false
    go true e = absurd (eqb-false _ _ n (ap fingerprint (same_terms-is a b e)))
    go false e = refl

none_with : (q : ℕ) (ks : List Derived) (d : Derived) → first_with q ks ≡ None → (j : ℕ) → j < length ks → nat_eq (fingerprint (get_or ks j d).row.terms) q ≡ false
unfolding first_with
none_with q [] d e j l = absurd (omega (arith, l))
none_with q (k ∷ ks) d e j l = go (nat_eq (fingerprint k.row.terms) q) refl (first_with q ks) (λ f. none_with q ks d f) e j l
  where
    go : (b : Bool) → nat_eq (fingerprint k.row.terms) q ≡ b → (o : Option ℕ) → (o ≡ None → (j : ℕ) → j < length ks → nat_eq (fingerprint (get_or ks j d).row.terms) q ≡ false) → cond b (Some 0) (option_map suc o) ≡ None → (j : ℕ) → j < suc (length ks) → nat_eq (fingerprint (get_or (k ∷ ks) j d).row.terms) q ≡ false
    go true f o h g j l = absurd (cc)
    go false f (Some i) h g j l = absurd (cc)
    go false f None h g zero l = f
    go false f None h g (suc j) l = h refl j (omega (arith, l))

-- The row is at the place, and no row before it has the fingerprint.
record IsFirst (q : ℕ) (ks : List Derived) (d : Derived) (i : ℕ) : Type 0 where
  there : i < length ks
  before : (j : ℕ) → j < i → nat_eq (fingerprint (get_or ks j d).row.terms) q ≡ false

is_first : (q : ℕ) (ks : List Derived) (d : Derived) (i : ℕ) → first_with q ks ≡ Some i → IsFirst q ks d i
unfolding first_with
is_first q [] d i e = absurd (cc)
is_first q (k ∷ ks) d i e = go (nat_eq (fingerprint k.row.terms) q) refl (first_with q ks) (λ m f. is_first q ks d m f) e
  where
    later : (m : ℕ) → nat_eq (fingerprint k.row.terms) q ≡ false → IsFirst q ks d m → (j : ℕ) → j < suc m → nat_eq (fingerprint (get_or (k ∷ ks) j d).row.terms) q ≡ false
    later m f p zero l = f
    later m f p (suc j) l = p.before j (omega (arith, l))

    go : (b : Bool) → nat_eq (fingerprint k.row.terms) q ≡ b → (o : Option ℕ) → ((m : ℕ) → o ≡ Some m → IsFirst q ks d m) → cond b (Some 0) (option_map suc o) ≡ Some i → IsFirst q (k ∷ ks) d i
    go true f o h g = let z : 0 ≡ i = cc in subst (IsFirst q (k ∷ ks) d) z (record { there = omega arith; before = λ j l. absurd (omega (arith, l)) })
    go false f None h g = absurd (cc)
    go false f (Some m) h g =
        let z : suc m ≡ i = cc in
        let p : IsFirst q ks d m = h m refl in
        let t : m < length ks = p.there in
        subst (IsFirst q (k ∷ ks) d) z (record { there = omega (arith, t); before = later m f p })

pub first-there : (q : ℕ) (ks : List Derived) (d : Derived) (i : ℕ) → first_with q ks ≡ Some i → i < length ks
first-there q ks d i e = (is_first q ks d i e).there

pub place_absent : (r : Derived) (ks : List Derived) → first_with (fingerprint r.row.terms) ks ≡ None → IsPlace r ks (length ks)
place_absent r ks e = record { within = omega arith; before = λ j l. apart _ _ (none_with (fingerprint r.row.terms) ks r e j l); here = λ l. absurd (omega (arith, l)) }

pub place_found : (r : Derived) (ks : List Derived) (i : ℕ) → first_with (fingerprint r.row.terms) ks ≡ Some i → same_terms (get_or ks i r).row.terms r.row.terms ≡ true → IsPlace r ks i
place_found r ks i e s =
    let p : IsFirst (fingerprint r.row.terms) ks r i = is_first (fingerprint r.row.terms) ks r i e in
    let t : i < length ks = p.there in
    record { within = omega (arith, t); before = λ j l. apart _ _ (p.before j l); here = λ l. s }

-- ---- After a row is added

first_new : (q : ℕ) (ks : List Derived) (r : Derived) → (nat_eq (fingerprint r.row.terms) q ≡ true → first_with q ks ≡ None) → first_with q (ks ++ r ∷ []) ≡ cond (nat_eq (fingerprint r.row.terms) q) (Some (length ks)) (first_with q ks)
unfolding first_with
first_new q [] r h = refl
first_new q (k ∷ ks) r h = go (nat_eq (fingerprint k.row.terms) q) (nat_eq (fingerprint r.row.terms) q) (first_with q ks) (first_with q (ks ++ r ∷ [])) h (first_new q ks r)
  where
    not_none : (n : ℕ) → Some n ≡ None → ⊥
    not_none n e = absurd (cc)

    none_below : (o : Option ℕ) → option_map suc o ≡ None → o ≡ None
    none_below None e = refl
    none_below (Some i) e = absurd (cc)

    go : (b c : Bool) (o x : Option ℕ) → (c ≡ true → cond b (Some 0) (option_map suc o) ≡ None) → ((c ≡ true → o ≡ None) → x ≡ cond c (Some (length ks)) o) → cond b (Some 0) (option_map suc x) ≡ cond c (Some (suc (length ks))) (cond b (Some 0) (option_map suc o))
    go true true o x h ih = absurd (not_none 0 (h refl))
    go true false o x h ih = refl
    go false true o x h ih = ap (option_map suc) (ih (λ t. none_below o (h refl)))
    go false false o x h ih = ap (option_map suc) (ih (λ (t : false ≡ true). absurd (cc)))

first_old : (q : ℕ) (ks : List Derived) (r : Derived) → (nat_eq (fingerprint r.row.terms) q ≡ true → is_some (first_with q ks) ≡ true) → first_with q (ks ++ r ∷ []) ≡ first_with q ks
unfolding first_with
first_old q [] r h = go (nat_eq (fingerprint r.row.terms) q) h
  where
    go : (c : Bool) → (c ≡ true → false ≡ true) → cond {A = Option ℕ} c (Some 0) None ≡ None
    go true h = let e : false ≡ true = h refl in absurd (cc)
    go false h = refl
first_old q (k ∷ ks) r h = go (nat_eq (fingerprint k.row.terms) q) (first_with q ks) h (first_old q ks r)
  where
    some_below : (o : Option ℕ) → is_some (option_map suc o) ≡ true → is_some o ≡ true
    some_below None e = e
    some_below (Some i) e = refl

    go : (b : Bool) (o : Option ℕ) → (nat_eq (fingerprint r.row.terms) q ≡ true → is_some (cond b (Some 0) (option_map suc o)) ≡ true) → ((nat_eq (fingerprint r.row.terms) q ≡ true → is_some o ≡ true) → first_with q (ks ++ r ∷ []) ≡ o) → cond b (Some 0) (option_map suc (first_with q (ks ++ r ∷ []))) ≡ cond b (Some 0) (option_map suc o)
    go true o h ih = refl
    go false o h ih = ap (option_map suc) (ih (λ t. some_below o (h t)))

first_set : (q : ℕ) (ks : List Derived) (i : ℕ) (r d : Derived) → i < length ks → fingerprint (get_or ks i d).row.terms ≡ fingerprint r.row.terms → first_with q (set ks i r) ≡ first_with q ks
unfolding first_with
first_set q [] i r d l e = absurd (omega (arith, l))
first_set q (k ∷ ks) zero r d l e = ap (λ n. cond (nat_eq n q) (Some 0) (option_map suc (first_with q ks))) (sym e)
first_set q (k ∷ ks) (suc i) r d l e = ap (λ o. cond (nat_eq (fingerprint k.row.terms) q) (Some 0) (option_map suc o)) (first_set q ks i r d (omega (arith, l)) e)

-- ---- The places

pub no_places : {S : Type 0} (m : HashMap ℕ ℕ S) → m.entries ≡ [] → ArePlaces m []
unfolding first_with
no_places m e = λ q. ap (lookup (nat_eq q)) e

none_at : (q k : ℕ) (ks : List Derived) → first_with k ks ≡ None → nat_eq k q ≡ true → first_with q ks ≡ None
none_at q k ks e t = subst (λ n. first_with n ks ≡ None) (eqb-true k q t) e

some_at : (q k : ℕ) (ks : List Derived) → is_some (first_with k ks) ≡ true → nat_eq k q ≡ true → is_some (first_with q ks) ≡ true
some_at q k ks e t = subst (λ n. is_some (first_with n ks) ≡ true) (eqb-true k q t) e

none_there : (o : Option ℕ) → is_some o ≡ false → o ≡ None
none_there None e = refl
none_there (Some i) e = absurd (cc)

pub noted : {S : Type 0} (m n : HashMap ℕ ℕ S) (ks now : List Derived) (r : Derived) (f : ℕ) → f ≡ fingerprint r.row.terms → ArePlaces m ks → is_some (get nat_eq m f) ≡ false → Updates nat_eq m n f (Some (length ks)) → now ≡ ks ++ r ∷ [] → ArePlaces n now
noted m n ks now r f e p g u h = subst (ArePlaces n) (sym h) (λ q. u.0 q ∙ ap (λ o. cond (nat_eq f q) (Some (length ks)) o) (p q) ∙ ap (λ k. cond (nat_eq k q) (Some (length ks)) (first_with q ks)) e ∙ sym (first_new q ks r (none_at q (fingerprint r.row.terms) ks (ap (λ k. first_with k ks) (sym e) ∙ sym (p f) ∙ none_there (get nat_eq m f) g))))

pub kept : {S : Type 0} (m : HashMap ℕ ℕ S) (ks now : List Derived) (r : Derived) (f : ℕ) → f ≡ fingerprint r.row.terms → ArePlaces m ks → is_some (get nat_eq m f) ≡ true → now ≡ ks ++ r ∷ [] → ArePlaces m now
kept m ks now r f e p g h = subst (ArePlaces m) (sym h) (λ q. p q ∙ sym (first_old q ks r (some_at q (fingerprint r.row.terms) ks (ap (λ k. is_some (first_with k ks)) (sym e) ∙ ap is_some (sym (p f)) ∙ g))))

pub replaced : {S : Type 0} (m : HashMap ℕ ℕ S) (ks : List Derived) (r : Derived) (i : ℕ) → IsPlace r ks i → (i ≡ length ks → ⊥) → ArePlaces m ks → ArePlaces m (set ks i r)
replaced m ks r i p n h = let l = strictly i (length ks) p.within n in λ q. h q ∙ sym (first_set q ks i r r l (ap fingerprint (same_terms-is _ _ (p.here l))))
