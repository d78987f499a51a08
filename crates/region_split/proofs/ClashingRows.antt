-- Two rows that exclude each other combine to a contradiction.
use Rattle.std.proofs.Common.{◌≡◌, ℕ, ◌+◌, ◌<◌, ◌^◌, List, [], ◌∷◌, length, take, refl, sym, ap, ap₂, ◌∙◌, subst, arith, Bool, true, false, cond, eqb, ◌⊎◌, inl, inr}
use Rattle.std.specs.Prelude.{ℤ, pos, ◌+ℤ◌, ◌*ℤ◌, ◌<ℤ◌, unsigned_abs, ◌||◌}
use borrow.Author.Differences.{ints}
use Prim.Native.Nat.{zero, suc}
use Rattle.std.proofs.lemmas.Bool.{eqb-true}
use Rattle.std.proofs.lemmas.List.Elements.{All-nil, All-cons}
use Rattle.linear_rows.specs.Row.{Row}
use Rattle.linear_rows.specs.Terms.{coefficient}
use Rattle.linear_rows.specs.Combination.{row_at, combined, uses_strict, IsWideThroughout, IsContradiction}
use Rattle.region_split.specs.internal.Clashes.{Cancel, Clash}

-- ---- Coefficients

plus_nothing : (z : ℤ) → z +ℤ pos 0 ≡ z
plus_nothing z = omega (arith, ints)

nothing_plus : (z : ℤ) → pos 0 +ℤ z ≡ z
nothing_plus z = omega (arith, ints)

none_below : (least x : ℕ) (ts us : List (ℕ × ℤ)) → Cancel least ts us → x < least → coefficient x ts ≡ pos 0
unfolding coefficient
none_below least x [] us h l = refl
none_below least x (t ∷ ts) [] h l = absurd h
none_below least x (t ∷ ts) (u ∷ us) h l = let b = h.0 in go (eqb t.0 x) refl (none_below (t.0 + 1) x ts us h.1.1.1.1 (omega (arith, b, l)))
  where
    go : (e : Bool) → eqb t.0 x ≡ e → coefficient x ts ≡ pos 0 → cond e t.1 (pos 0) +ℤ coefficient x ts ≡ pos 0
    go true e ih = let b = h.0 in absurd (omega (arith, l, b, eqb-true t.0 x e))
    go false e ih = nothing_plus (coefficient x ts) ∙ ih

pub narrow_coefficient : (least x : ℕ) (ts us : List (ℕ × ℤ)) → Cancel least ts us → unsigned_abs (coefficient x ts) < 2 ^ 62
unfolding coefficient
narrow_coefficient least x [] us h = omega arith
narrow_coefficient least x (t ∷ ts) [] h = absurd h
narrow_coefficient least x (t ∷ ts) (u ∷ us) h = go (eqb t.0 x) refl (narrow_coefficient (t.0 + 1) x ts us h.1.1.1.1)
  where
    go : (e : Bool) → eqb t.0 x ≡ e → unsigned_abs (coefficient x ts) < 2 ^ 62 → unsigned_abs (cond e t.1 (pos 0) +ℤ coefficient x ts) < 2 ^ 62
    go true e ih = let k = eqb-true t.0 x e in subst (λ z. unsigned_abs z < 2 ^ 62) (sym (ap (λ z. t.1 +ℤ z) (none_below (t.0 + 1) x ts us h.1.1.1.1 (omega (arith, k))) ∙ plus_nothing t.1)) h.1.1.0
    go false e ih = subst (λ z. unsigned_abs z < 2 ^ 62) (sym (nothing_plus (coefficient x ts))) ih

both_vanish : (a b c d : ℤ) → a +ℤ b ≡ pos 0 → c +ℤ d ≡ pos 0 → (a +ℤ c) +ℤ (b +ℤ d) ≡ pos 0
both_vanish a b c d h k = omega (arith, ints, h, k)

pub cancelled : (least x : ℕ) (ts us : List (ℕ × ℤ)) → Cancel least ts us → coefficient x ts +ℤ coefficient x us ≡ pos 0
unfolding coefficient
cancelled least x [] [] h = refl
cancelled least x [] (u ∷ us) h = absurd h
cancelled least x (t ∷ ts) [] h = absurd h
cancelled least x (t ∷ ts) (u ∷ us) h = both_vanish (cond (eqb t.0 x) t.1 (pos 0)) (cond (eqb u.0 x) u.1 (pos 0)) (coefficient x ts) (coefficient x us) (subst (λ v. cond (eqb t.0 x) t.1 (pos 0) +ℤ cond (eqb v x) u.1 (pos 0) ≡ pos 0) h.1.0 (go (eqb t.0 x))) (cancelled (t.0 + 1) x ts us h.1.1.1.1)
  where
    go : (e : Bool) → cond e t.1 (pos 0) +ℤ cond e u.1 (pos 0) ≡ pos 0
    go true = h.1.1.1.0
    go false = refl

-- ---- The sum of two rows

abbrev two : ℕ → ℕ → List (ℕ × ℕ)
two i n = (i, 1) ∷ ((n, 1) ∷ [])

added_once : (y z : ℤ) → (pos 1 *ℤ y) +ℤ ((pos 1 *ℤ z) +ℤ pos 0) ≡ y +ℤ z
added_once y z = omega (arith, ints)

alone : (y : ℤ) → (pos 1 *ℤ y) +ℤ pos 0 ≡ y
alone y = omega (arith, ints)

combined_two : (F : Row → ℤ) (all : List Row) (a b : Row) (i n : ℕ) → row_at all i ≡ a → row_at all n ≡ b → combined F (two i n) all ≡ F a +ℤ F b
unfolding combined
combined_two F all a b i n e f = added_once (F (row_at all i)) (F (row_at all n)) ∙ ap₂ (λ r s. F r +ℤ F s) e f

combined_one : (F : Row → ℤ) (all : List Row) (a : Row) (i : ℕ) → row_at all i ≡ a → combined F ((i, 1) ∷ []) all ≡ F a
unfolding combined
combined_one F all a i e = alone (F (row_at all i)) ∙ ap F e

combined_none : (F : Row → ℤ) (all : List Row) → combined F [] all ≡ pos 0
unfolding combined
combined_none F all = refl

taken_none : (k : ℕ) → take {A = ℕ × ℕ} k [] ≡ []
taken_none zero = refl
taken_none (suc k) = refl

wide_two : (F : Row → ℤ) (all : List Row) (a b : Row) (i n : ℕ) → row_at all i ≡ a → row_at all n ≡ b → unsigned_abs (F a) < 2 ^ 126 → unsigned_abs (F a +ℤ F b) < 2 ^ 126 → IsWideThroughout F (two i n) all
wide_two F all a b i n e f h k = record { wide = go }
  where
    go : (j : ℕ) → unsigned_abs (combined F (take j (two i n)) all) < 2 ^ 126
    go zero = subst (λ z. unsigned_abs z < 2 ^ 126) (sym (combined_none F all)) (omega arith)
    go (suc zero) = subst (λ z. unsigned_abs z < 2 ^ 126) (sym (combined_one F all a i e)) h
    go (suc (suc j)) = subst (λ z. unsigned_abs z < 2 ^ 126) (sym (ap (λ ms. combined F ((i, 1) ∷ ((n, 1) ∷ ms)) all) (taken_none j) ∙ combined_two F all a b i n e f)) k

strict_two : (all : List Row) (a b : Row) (i n : ℕ) → row_at all i ≡ a → row_at all n ≡ b → (a.strict || b.strict) ≡ true → uses_strict (two i n) all ≡ true
unfolding uses_strict
strict_two all a b i n e f h = ap₂ (λ (r s : Row). r.strict || (s.strict || false)) e f ∙ go a.strict b.strict h
  where
    go : (x y : Bool) → (x || y) ≡ true → (x || (y || false)) ≡ true
    go true y k = refl
    go false true k = refl
    go false false k = k

small : (m : ℕ) → m < 2 ^ 62 → m < 2 ^ 126
small m h = omega arith

zero_small : (z : ℤ) → z ≡ pos 0 → unsigned_abs z < 2 ^ 126
zero_small z e = omega (arith, ints, e)

sum_small : (y z : ℤ) → unsigned_abs y < 2 ^ 62 → unsigned_abs z < 2 ^ 62 → unsigned_abs (y +ℤ z) < 2 ^ 126
sum_small y z h k = omega (arith, ints, h, k)

pub clash_contradicts : (all : List Row) (a b : Row) (i n : ℕ) → i < n → n < length all → row_at all i ≡ a → row_at all n ≡ b → Clash a b → IsContradiction (two i n) all
clash_contradicts all a b i n l m e f h = record {
  growing = (All-cons (λ (k : ℕ × ℕ). i < k.0) (n, 1) [] l (All-nil _), (All-nil _, tt));
  within = All-cons (λ (k : ℕ × ℕ). k.0 < length all) (i, 1) ((n, 1) ∷ []) (omega (arith, l, m)) (All-cons (λ (k : ℕ × ℕ). k.0 < length all) (n, 1) [] m (All-nil _));
  positive = All-cons (λ (k : ℕ × ℕ). 0 < k.1) (i, 1) ((n, 1) ∷ []) (omega arith) (All-cons (λ (k : ℕ × ℕ). 0 < k.1) (n, 1) [] (omega arith) (All-nil _));
  narrow = All-cons (λ (k : ℕ × ℕ). k.1 < 2 ^ 62) (i, 1) ((n, 1) ∷ []) (omega arith) (All-cons (λ (k : ℕ × ℕ). k.1 < 2 ^ 62) (n, 1) [] (omega arith) (All-nil _));
  coefficients_wide = λ x. wide_two (λ r. coefficient x r.terms) all a b i n e f (small _ (narrow_coefficient 0 x a.terms b.terms h.terms)) (zero_small _ (cancelled 0 x a.terms b.terms h.terms));
  constants_wide = wide_two (λ r. r.rest) all a b i n e f (small _ h.constants.first_narrow) (sum_small a.rest b.rest h.constants.first_narrow h.constants.second_narrow);
  no_variable = λ x. combined_two (λ r. coefficient x r.terms) all a b i n e f ∙ cancelled 0 x a.terms b.terms h.terms;
  false_constant = unmet h.constants.unmet;
}
  where
    sum : combined (λ r. r.rest) (two i n) all ≡ a.rest +ℤ b.rest
    sum = combined_two (λ r. r.rest) all a b i n e f

    unmet : (pos 0 <ℤ (a.rest +ℤ b.rest)) ⊎ (((a.rest +ℤ b.rest) ≡ pos 0) × ((a.strict || b.strict) ≡ true)) → (pos 0 <ℤ combined (λ r. r.rest) (two i n) all) ⊎ ((combined (λ r. r.rest) (two i n) all ≡ pos 0) × (uses_strict (two i n) all ≡ true))
    unmet (inl p) = inl (subst (λ z. pos 0 <ℤ z) (sym sum) p)
    unmet (inr (p, s)) = inr (sum ∙ p, strict_two all a b i n e f s)
