-- The search for the rows that no other row dominates.
use Rattle.std.proofs.Common.{◌≡◌, ℕ, ◌+◌, ◌<◌, ◌≤◌, List, [], ◌∷◌, ◌++◌, append_assoc, append-nil, length, drop, get_or, map, refl, sym, ap, ◌∙◌, arith, Bool, true, false, cond, not, ◌||◌, ◌&&◌}
use Rattle.std.specs.Prelude.{Option, Some, None, is_some}
use Prim.Native.Nat.{suc}
use Rattle.std.specs.List.{filter, list_any}
use Rattle.std.proofs.lemmas.List.{get_or-map}
use Rattle.linear_dominance.specs.DominatedRows.{first_variable, is_sign_row, signed_variables, dominates, is_dominated}
use Rattle.linear_elim.specs.Joins.{Derived}
use Rattle.linear_elim.specs.Steps.{bare}
use Rattle.linear_elim.proofs.JoinSequences.{rest_end}
use Rattle.linear_elim.proofs.RowSplits.{filter_yes, filter_no}

-- ---- Sign rows

abbrev pub sign_is : Derived → Option ℕ
sign_is d = cond (is_sign_row d.row) (Some (first_variable d.row.terms)) None

sign_there : (d : Derived) (v : ℕ) (ds : List Derived) → Some v ≡ sign_is d → signed_variables (bare (d ∷ ds)) ≡ v ∷ signed_variables (bare ds)
sign_there d v ds e = go (is_sign_row d.row) e
  where
    go : (b : Bool) → Some v ≡ cond b (Some (first_variable d.row.terms)) None → map (λ r. first_variable r.terms) (cond b (d.row ∷ filter is_sign_row (bare ds)) (filter is_sign_row (bare ds))) ≡ v ∷ signed_variables (bare ds)
    go true e = let h : v ≡ first_variable d.row.terms = cc in ap (λ x. x ∷ signed_variables (bare ds)) (sym h)
    go false e = absurd (cc)

sign_lacks : (d : Derived) (ds : List Derived) → None ≡ sign_is d → signed_variables (bare (d ∷ ds)) ≡ signed_variables (bare ds)
sign_lacks d ds e = go (is_sign_row d.row) e
  where
    go : (b : Bool) → None ≡ cond b (Some (first_variable d.row.terms)) None → map (λ r. first_variable r.terms) (cond b (d.row ∷ filter is_sign_row (bare ds)) (filter is_sign_row (bare ds))) ≡ signed_variables (bare ds)
    go true e = absurd (cc)
    go false e = refl

pub signs_more : (ds : List Derived) (i : ℕ) (d : Derived) (out now all : List ℕ) (v : ℕ) → drop i ds ≡ d ∷ drop (i + 1) ds → Some v ≡ sign_is d → now ≡ out ++ v ∷ [] → out ++ signed_variables (bare (drop i ds)) ≡ all → now ++ signed_variables (bare (drop (i + 1) ds)) ≡ all
signs_more ds i d out now all v e s n h = ap (λ xs. xs ++ signed_variables (bare (drop (i + 1) ds))) n ∙ append_assoc out (v ∷ []) (signed_variables (bare (drop (i + 1) ds))) ∙ ap (λ xs. out ++ xs) (sym (sign_there d v (drop (i + 1) ds) s) ∙ ap (λ xs. signed_variables (bare xs)) (sym e)) ∙ h

pub signs_skip : (ds : List Derived) (i : ℕ) (d : Derived) (out all : List ℕ) → drop i ds ≡ d ∷ drop (i + 1) ds → None ≡ sign_is d → out ++ signed_variables (bare (drop i ds)) ≡ all → out ++ signed_variables (bare (drop (i + 1) ds)) ≡ all
signs_skip ds i d out all e s h = ap (λ xs. out ++ xs) (sym (sign_lacks d (drop (i + 1) ds) s) ∙ ap (λ xs. signed_variables (bare xs)) (sym e)) ∙ h

pub signs_end : (ds : List Derived) (i : ℕ) (out all : List ℕ) → length ds ≤ i → out ++ signed_variables (bare (drop i ds)) ≡ all → out ≡ all
signs_end ds i out all l h = sym (append-nil out) ∙ ap (λ xs. out ++ signed_variables (bare xs)) (sym (rest_end ds i l)) ∙ h

-- ---- A row that dominates

pub one_above : (signed : List ℕ) (ds : List Derived) (i : ℕ) (d r : Derived) (f : Bool) → drop i ds ≡ d ∷ drop (i + 1) ds → true ≡ dominates signed d.row r.row → list_any (λ s. dominates signed s r.row) (bare (drop i ds)) ≡ f → true ≡ f
one_above signed ds i d r f e t h = ap (λ b. b || list_any (λ s. dominates signed s r.row) (bare (drop (i + 1) ds))) t ∙ ap (λ xs. list_any (λ s. dominates signed s r.row) (bare xs)) (sym e) ∙ h

pub none_above : (signed : List ℕ) (ds : List Derived) (i : ℕ) (d r : Derived) (f : Bool) → drop i ds ≡ d ∷ drop (i + 1) ds → false ≡ dominates signed d.row r.row → list_any (λ s. dominates signed s r.row) (bare (drop i ds)) ≡ f → list_any (λ s. dominates signed s r.row) (bare (drop (i + 1) ds)) ≡ f
none_above signed ds i d r f e t h = ap (λ b. b || list_any (λ s. dominates signed s r.row) (bare (drop (i + 1) ds))) t ∙ ap (λ xs. list_any (λ s. dominates signed s r.row) (bare xs)) (sym e) ∙ h

pub above_end : (signed : List ℕ) (ds : List Derived) (i : ℕ) (r : Derived) (f : Bool) → length ds ≤ i → list_any (λ s. dominates signed s r.row) (bare (drop i ds)) ≡ f → false ≡ f
above_end signed ds i r f l h = ap (λ xs. list_any (λ s. dominates signed s r.row) (bare xs)) (sym (rest_end ds i l)) ∙ h

pub sign_left : (r : Derived) (o : Option ℕ) (b : Bool) → o ≡ sign_is r → is_some o ≡ true → true ≡ not (not (is_sign_row r.row) && b)
sign_left r o b e s = go (is_sign_row r.row) (sym (ap is_some e) ∙ s)
  where
    go : (a : Bool) → is_some (cond a (Some (first_variable r.row.terms)) None) ≡ true → true ≡ not (not a && b)
    go true e = refl
    go false e = absurd (cc)

pub other_left : (r : Derived) (o : Option ℕ) (b d : Bool) → o ≡ sign_is r → is_some o ≡ false → b ≡ d → not b ≡ not (not (is_sign_row r.row) && d)
other_left r o b d e s h = go (is_sign_row r.row) (sym (ap is_some e) ∙ s)
  where
    go : (a : Bool) → is_some (cond a (Some (first_variable r.row.terms)) None) ≡ false → not b ≡ not (not a && d)
    go true e = absurd (cc)
    go false e = ap not h

-- ---- The rows that are left, and their number

abbrev pub stays : List Derived → Derived → Bool
stays rows d = not (is_dominated (bare rows) d.row)

pub left_more : (p : Derived → Bool) (ds : List Derived) (i : ℕ) (d : Derived) (out now all : List Bool) (b : Bool) → drop i ds ≡ d ∷ drop (i + 1) ds → b ≡ p d → now ≡ out ++ b ∷ [] → out ++ map p (drop i ds) ≡ all → now ++ map p (drop (i + 1) ds) ≡ all
left_more p ds i d out now all b e s n h = ap (λ xs. xs ++ map p (drop (i + 1) ds)) (n ∙ ap (λ a. out ++ a ∷ []) s) ∙ append_assoc out (p d ∷ []) (map p (drop (i + 1) ds)) ∙ ap (λ xs. out ++ map p xs) (sym e) ∙ h

pub left_end : (p : Derived → Bool) (ds : List Derived) (i : ℕ) (out all : List Bool) → length ds ≤ i → out ++ map p (drop i ds) ≡ all → out ≡ all
left_end p ds i out all l h = sym (append-nil out) ∙ ap (λ xs. out ++ map p xs) (sym (rest_end ds i l)) ∙ h

passes_more : (p : Derived → Bool) (d : Derived) (ds : List Derived) → p d ≡ true → length (filter p (d ∷ ds)) ≡ length (filter p ds) + 1
passes_more p d ds e = ap (λ b. length (cond b (d ∷ filter p ds) (filter p ds))) e ∙ more (length (filter p ds))
  where
    more : (n : ℕ) → suc n ≡ n + 1
    more n = omega arith

passes_not : (p : Derived → Bool) (d : Derived) (ds : List Derived) → p d ≡ false → length (filter p (d ∷ ds)) ≡ length (filter p ds)
passes_not p d ds e = ap (λ b. length (cond b (d ∷ filter p ds) (filter p ds))) e

pub count_more : (p : Derived → Bool) (ds : List Derived) (i : ℕ) (d : Derived) (k n : ℕ) → drop i ds ≡ d ∷ drop (i + 1) ds → true ≡ p d → k + length (filter p (drop i ds)) ≡ n → (k + 1) + length (filter p (drop (i + 1) ds)) ≡ n
count_more p ds i d k n e s h = let m = ap (λ xs. length (filter p xs)) e ∙ passes_more p d (drop (i + 1) ds) (sym s) in omega (arith, m, h)

pub count_same : (p : Derived → Bool) (ds : List Derived) (i : ℕ) (d : Derived) (k n : ℕ) → drop i ds ≡ d ∷ drop (i + 1) ds → false ≡ p d → k + length (filter p (drop i ds)) ≡ n → k + length (filter p (drop (i + 1) ds)) ≡ n
count_same p ds i d k n e s h = let m = ap (λ xs. length (filter p xs)) e ∙ passes_not p d (drop (i + 1) ds) (sym s) in omega (arith, m, h)

pub count_end : (p : Derived → Bool) (ds : List Derived) (i k n : ℕ) → length ds ≤ i → k + length (filter p (drop i ds)) ≡ n → k ≤ 4096 → n ≤ 4096
count_end p ds i k n l h m = let e = ap (λ xs. length (filter p xs)) (rest_end ds i l) in omega (arith, e, h, m)

pub too_many_left : (p : Derived → Bool) (ds : List Derived) (i : ℕ) (d : Derived) (k n : ℕ) → drop i ds ≡ d ∷ drop (i + 1) ds → true ≡ p d → k + length (filter p (drop i ds)) ≡ n → 4096 ≤ k → 4096 < n
too_many_left p ds i d k n e s h l = let m = ap (λ xs. length (filter p xs)) e ∙ passes_more p d (drop (i + 1) ds) (sym s) in omega (arith, m, h, l)

-- ---- The marked rows

pub pick_is : (p : Derived → Bool) (all : List Derived) (left : List Bool) (i : ℕ) (r : Derived) (e : Bool) → left ≡ map p all → i < length all → r ≡ get_or all i r → get_or left i e ≡ p r
pick_is p all left i r e h l g = ap (λ xs. get_or xs i e) h ∙ get_or-map p all i r e l ∙ ap p (sym g)

pub pick_more : (p : Derived → Bool) (xs : List Derived) (r : Derived) (out now : List Derived) → p r ≡ true → now ≡ out ++ r ∷ [] → out ≡ filter p xs → now ≡ filter p (xs ++ r ∷ [])
pick_more p xs r out now e n h = n ∙ ap (λ ys. ys ++ r ∷ []) h ∙ sym (filter_yes p xs r e)

pub pick_skip : (p : Derived → Bool) (xs : List Derived) (r : Derived) (out : List Derived) → p r ≡ false → out ≡ filter p xs → out ≡ filter p (xs ++ r ∷ [])
pick_skip p xs r out e h = h ∙ sym (filter_no p xs r e)
