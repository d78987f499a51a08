-- The rows of a path with those of the signs of its unsigned variables.
use Rattle.std.proofs.Common.{◌≡◌, ℕ, List, [], ◌∷◌, ◌++◌, map, refl, sym, ap, ap₂, ◌∙◌, subst, arith, Bool, true, false, cond, ◌&&◌, ◌||◌, ◌==◌, eqb}
use Rattle.std.specs.Prelude.{ℤ, Option, Some, None}
use Rattle.std.specs.List.{list_any}
use Rattle.std.proofs.lemmas.List.{append-nil, map-append}
use Prim.Native.Nat.{zero, suc}
use Rattle.heyvl_num.specs.Rational.{Rational, ◌*ʳ◌}
use Rattle.heylo_formula.specs.Typing.{Types, types_in}
use Rattle.heylo_formula.specs.declared.types.Ty.{Ty}
use Rattle.linear_rows.specs.Row.{Row}
use Rattle.linear_values.specs.Lin.{Terms, variable}
use Rattle.linear_values.specs.Tightening.{Claim, tightened, tight_row, whole_terms, factor, rounded, are_whole, with_row, all_tightened}
use Rattle.linear_rows.specs.VariableOrder.{occurs_in_row}
use Rattle.linear_form.specs.PathRows.{claim, negated, is_unsigned_type, occurs_in_terms, occurs_in_claims, sign_claims}
use Rattle.linear_form.specs.internal.FurtherRows.{rows_with, one_more, all_unsigned_in}
use Rattle.linear_form.specs.RowLists.{Lists}
use Rattle.linear_form.specs.declared.path_rows.RowList.{RowList}
use Rattle.linear_values.proofs.exported.KeptTerms.{of_two}
use Rattle.linear_values.proofs.exported.TightRows.{taken_row}
use Rattle.linear_form.proofs.RowsOfClaims.{joined, tightened_append}

-- ---- A row has the variables of its claim

same_either_way : (m n : ℕ) → eqb m n ≡ (n == m)
same_either_way m n = grind arith

whole_occurs : (x : ℕ) (w : Rational) (ts : Terms) → list_any (λ (t : ℕ × ℤ). eqb t.0 x) (whole_terms w ts) ≡ occurs_in_terms x ts
whole_occurs x w [] = refl
whole_occurs x w (t ∷ ts) = ap₂ (λ a b. a || b) (same_either_way t.0 x) (whole_occurs x w ts)

tight_occurs : (types : Types) (x : ℕ) (ts : Terms) (c : Rational) (strict : Bool) → occurs_in_row x (tight_row types ts c strict) ≡ occurs_in_terms x ts
tight_occurs types x [] c strict = refl
tight_occurs types x (t ∷ ts) c strict = of_two (λ r. occurs_in_row x r ≡ occurs_in_terms x (t ∷ ts)) (are_whole types (t ∷ ts)) (record { terms = whole_terms (factor (t ∷ ts)) (t ∷ ts); rest = rounded strict (factor (t ∷ ts) *ʳ c); strict = false }) _ (whole_occurs x (factor (t ∷ ts)) (t ∷ ts)) (whole_occurs x _ (t ∷ ts))

claim_occurs : (types : Types) (x : ℕ) (k : Claim) (r : Row) → tightened types k ≡ Some r → occurs_in_row x r ≡ occurs_in_terms x k.left.terms
unfolding tightened
claim_occurs types x k r e = ap (occurs_in_row x) (sym (taken_row _ (tight_row types k.left.terms k.left.rest k.strict) r e)) ∙ tight_occurs types x k.left.terms k.left.rest k.strict

pub claims_occur : (types : Types) (x : ℕ) (ks : List Claim) (rows : List Row) → all_tightened types ks ≡ Some rows → list_any (occurs_in_row x) rows ≡ occurs_in_claims x ks
claims_occur types x [] rows e = let k : [] ≡ rows = cc in ap (list_any (occurs_in_row x)) (sym k)
claims_occur types x (k ∷ ks) rows e = go (tightened types k) refl (all_tightened types ks) refl e (λ qs b. claims_occur types x ks qs b)
  where
    go : (o : Option Row) → tightened types k ≡ o → (p : Option (List Row)) → all_tightened types ks ≡ p → with_row o p ≡ Some rows → ((qs : List Row) → all_tightened types ks ≡ Some qs → list_any (occurs_in_row x) qs ≡ occurs_in_claims x ks) → list_any (occurs_in_row x) rows ≡ occurs_in_claims x (k ∷ ks)
    go (Some r) a (Some qs) b e ih = let i : (r ∷ qs) ≡ rows = cc in ap (list_any (occurs_in_row x)) (sym i) ∙ ap₂ (λ a b. a || b) (claim_occurs types x k r a) (ih qs b)
    go (Some r) a None b e ih = absurd (cc)
    go None a (Some qs) b e ih = absurd (cc)
    go None a None b e ih = absurd (cc)

-- ---- The signs

one_sign : (f : ℕ → Claim) (xs : List ℕ) (n : ℕ) (b : Bool) → map f (one_more xs (cond b (Some n) None)) ≡ map f xs ++ cond b (f n ∷ []) []
one_sign f xs n true = map-append f xs (n ∷ [])
one_sign f xs n false = sym (append-nil (map f xs))

signs_same : (types : Types) (ks : List Claim) (rows : List Row) (n : ℕ) → all_tightened types ks ≡ Some rows → map (λ x. claim (negated (variable x)) false) (all_unsigned_in types rows n) ≡ sign_claims types ks n
signs_same types ks rows zero e = refl
signs_same types ks rows (suc n) e = one_sign (λ x. claim (negated (variable x)) false) (all_unsigned_in types rows n) n (is_unsigned_type (types n) && list_any (occurs_in_row n) rows) ∙ ap₂ (λ ls b. ls ++ cond (is_unsigned_type (types n) && b) (claim (negated (variable n)) false ∷ []) []) (signs_same types ks rows n e) (claims_occur types n ks rows e)

-- ---- All rows

pub bits_first : (tys' tys : List Ty) (ks ls : List Claim) → tys' ≡ tys → all_tightened (types_in tys') ks ≡ None → all_tightened (types_in tys) (ks ++ ls) ≡ None
bits_first tys' tys ks ls e h = tightened_append (types_in tys) ks ls ∙ ap (λ o. joined o (all_tightened (types_in tys) ls)) (ap (λ z. all_tightened (types_in z) ks) (sym e) ∙ h)

rows_first : (tys' tys : List Ty) (ks ls : List Claim) (rows : List Row) → tys' ≡ tys → all_tightened (types_in tys') ks ≡ Some rows → all_tightened (types_in tys) (ks ++ ls) ≡ rows_with (types_in tys) rows ls
rows_first tys' tys ks ls rows e h = tightened_append (types_in tys) ks ls ∙ ap (λ o. joined o (all_tightened (types_in tys) ls)) (ap (λ z. all_tightened (types_in z) ks) (sym e) ∙ h)

pub with_denied : (tys' tys : List Ty) (ks ls : List Claim) (rows : List Row) (d : Bool) (r : RowList) → tys' ≡ tys → d ≡ true → all_tightened (types_in tys') ks ≡ Some rows → Lists r (rows_with (types_in tys) rows ls) → Lists r (all_tightened (types_in tys) (ks ++ cond d ls []))
with_denied tys' tys ks ls rows d r e f h k = subst (Lists r) (sym (rows_first tys' tys ks ls rows e h) ∙ ap (λ b. all_tightened (types_in tys) (ks ++ cond b ls [])) (sym f)) k

pub signed : (tys' tys : List Ty) (ks : List Claim) (rows : List Row) (n' n : ℕ) (r : RowList) → tys' ≡ tys → n' ≡ n → all_tightened (types_in tys) ks ≡ Some rows → Lists r (rows_with (types_in tys') rows (map (λ x. claim (negated (variable x)) false) (all_unsigned_in (types_in tys') rows n'))) → Lists r (all_tightened (types_in tys) (ks ++ sign_claims (types_in tys) ks n))
signed tys' tys ks rows n' n r e f h k = subst (Lists r) (ap₂ (λ z m. rows_with (types_in z) rows (map (λ x. claim (negated (variable x)) false) (all_unsigned_in (types_in z) rows m))) e f ∙ ap (rows_with (types_in tys) rows) (signs_same (types_in tys) ks rows n h) ∙ sym (rows_first tys tys ks (sign_claims (types_in tys) ks n) rows refl h)) k
