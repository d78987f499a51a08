-- The comparison of lists of terms is true exactly if the lists are equal.
use Rattle.std.proofs.Common.{◌≡◌, ℕ, List, [], ◌∷◌, refl, ap, ap₂, subst, arith, Bool, true, false, eqb, ◌&&◌, length}
use Rattle.std.specs.Prelude.{ℤ, pos, negsuc, IsTrue, ◌↔◌}
use Rattle.std.proofs.lemmas.Bool.{eqb-true, and_from}
use Rattle.linear_rows.specs.SameTerms.{same_number, same_terms}

pub and_true : (a b : Bool) → (a && b) ≡ true → (a ≡ true) × (b ≡ true)
and_true true b e = (refl, e)
and_true false b e = absurd (cc)

pub same_number-is : (a b : ℤ) → same_number a b ≡ true → a ≡ b
same_number-is (pos a) (pos b) e = ap pos (eqb-true a b e)
same_number-is (pos a) (negsuc b) e = absurd (cc)
same_number-is (negsuc a) (pos b) e = absurd (cc)
same_number-is (negsuc a) (negsuc b) e = ap negsuc (eqb-true a b e)

pub same_terms-is : (ts us : List (ℕ × ℤ)) → same_terms ts us ≡ true → ts ≡ us
same_terms-is [] [] e = refl
same_terms-is [] (u ∷ us) e = absurd (cc)
same_terms-is (t ∷ ts) [] e = absurd (cc)
same_terms-is (t ∷ ts) (u ∷ us) e =
    let h = and_true (eqb t.0 u.0 && same_number t.1 u.1) (same_terms ts us) e in
    let k = and_true (eqb t.0 u.0) (same_number t.1 u.1) h.0 in
    ap₂ (λ (x : ℕ × ℤ) (xs : List (ℕ × ℤ)). x ∷ xs) (ap₂ (λ (v : ℕ) (c : ℤ). (v, c)) (eqb-true t.0 u.0 k.0) (same_number-is t.1 u.1 k.1)) (same_terms-is ts us h.1)

same_var : (n : ℕ) → eqb n n ≡ true
same_var n = grind arith

number-same : (z : ℤ) → same_number z z ≡ true
number-same (pos n) = same_var n
number-same (negsuc n) = same_var n

pub terms-same : (ts : List (ℕ × ℤ)) → same_terms ts ts ≡ true
terms-same [] = refl
terms-same (t ∷ ts) = and_from _ _ (and_from _ _ (same_var t.0) (number-same t.1)) (terms-same ts)

pub same_terms-tells : (ts us : List (ℕ × ℤ)) → IsTrue (same_terms ts us) ↔ (ts ≡ us)
same_terms-tells ts us = (same_terms-is ts us, λ e. subst (λ vs. same_terms ts vs ≡ true) e (terms-same ts))

pub lengths_differ : (a b : List (ℕ × ℤ)) → (length a ≡ length b → ⊥) → false ≡ same_terms a b
lengths_differ a b n = go (same_terms a b) refl
  where
    go : (s : Bool) → same_terms a b ≡ s → false ≡ s
    go true e = absurd (n (ap length (same_terms-is a b e)))
    go false e = refl
