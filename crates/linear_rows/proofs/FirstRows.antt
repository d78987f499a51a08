-- The first row of a variable, when rows are added and removed.
use Rattle.std.proofs.Common.{◌≡◌, ℕ, ◌+◌, ◌<◌, ◌≤◌, List, [], ◌∷◌, ◌++◌, length, take, get_or, refl, sym, ap, ◌∙◌, subst, arith, Bool, true, false, cond, eqb, ◌||◌}
use Rattle.std.proofs.lemmas.Grind.{common_steps}
use Rattle.std.proofs.lemmas.List.{get_or_default}
use Rattle.std.specs.Prelude.{ℤ, Option, Some, None}
use Rattle.std.specs.List.{list_any}
use Rattle.std.specs.Option.{option_or, option_map}
use Prim.Native.Nat.{zero, suc}
use Rattle.linear_rows.specs.Row.{Row}
use Rattle.linear_rows.specs.VariableOrder.{occurs_in_row}
use Rattle.linear_rows.specs.Occurrences.{AreOccurrences, first_row}
use Rattle.linear_rows.specs.internal.FirstRows.{here, before}
use Rattle.linear_rows.specs.declared.occurrences.Occurrences.{Occurrences}

-- ---- One more row

pub row_more : (x i : ℕ) (rows : List Row) (r : Row) → first_row x i (rows ++ (r ∷ [])) ≡ option_or (first_row x i rows) (here x (i + length rows) (occurs_in_row x r))
row_more x i [] r = let e : i ≡ i + length {A = Row} [] = omega arith in ap (λ n. here x n (occurs_in_row x r)) e
row_more x i (q ∷ rows) r = let e : (i + 1) + length rows ≡ i + suc (length rows) = omega arith in go (occurs_in_row x q) (row_more x (i + 1) rows r ∙ ap (λ n. option_or (first_row x (i + 1) rows) (here x n (occurs_in_row x r))) e)
  where
    go : (b : Bool) → first_row x (i + 1) (rows ++ (r ∷ [])) ≡ option_or (first_row x (i + 1) rows) (here x (i + suc (length rows)) (occurs_in_row x r)) → cond b (Some (x, i)) (first_row x (i + 1) (rows ++ (r ∷ []))) ≡ option_or (cond b (Some (x, i)) (first_row x (i + 1) rows)) (here x (i + suc (length rows)) (occurs_in_row x r))
    go true e = refl
    go false e = e

-- ---- The first rows alone

none_before : (x i n : ℕ) (rows : List Row) → n ≤ i → before n (first_row x i rows) ≡ None
none_before x i n [] h = refl
none_before x i n (q ∷ rows) h = go (occurs_in_row x q) (none_before x (i + 1) n rows (omega (arith, h)))
  where
    go : (b : Bool) → before n (first_row x (i + 1) rows) ≡ None → before n (cond b (Some (x, i)) (first_row x (i + 1) rows)) ≡ None
    go true e = grind (arith, common_steps, h)
    go false e = e

pub rows_before : (x i n : ℕ) (rows : List Row) → first_row x i (take n rows) ≡ before (i + n) (first_row x i rows)
rows_before x i zero [] = refl
rows_before x i (suc n) [] = refl
rows_before x i zero (q ∷ rows) = sym (none_before x i (i + 0) (q ∷ rows) (omega arith))
rows_before x i (suc n) (q ∷ rows) = let e : (i + 1) + n ≡ i + suc n = omega arith in go (occurs_in_row x q) (rows_before x (i + 1) n rows ∙ ap (λ m. before m (first_row x (i + 1) rows)) e)
  where
    go : (b : Bool) → first_row x (i + 1) (take n rows) ≡ before (i + suc n) (first_row x (i + 1) rows) → cond b (Some (x, i)) (first_row x (i + 1) (take n rows)) ≡ before (i + suc n) (cond b (Some (x, i)) (first_row x (i + 1) rows))
    go true e = grind (arith, common_steps)
    go false e = e

-- ---- Whether there is one

variable_there : (x i : ℕ) (rows : List Row) → option_map (λ (f : ℕ × ℕ). f.0) (first_row x i rows) ≡ cond (list_any (occurs_in_row x) rows) (Some x) None
variable_there x i [] = refl
variable_there x i (q ∷ rows) = go (occurs_in_row x q) (variable_there x (i + 1) rows)
  where
    go : (b : Bool) → option_map (λ (f : ℕ × ℕ). f.0) (first_row x (i + 1) rows) ≡ cond (list_any (occurs_in_row x) rows) (Some x) None → option_map (λ (f : ℕ × ℕ). f.0) (cond b (Some (x, i)) (first_row x (i + 1) rows)) ≡ cond (b || list_any (occurs_in_row x) rows) (Some x) None
    go true e = refl
    go false e = e

-- ---- All variables

-- The terms of one more row are added.
pub record WasNoted (index : ℕ) (terms : List (ℕ × ℤ)) (old new : List (Option (ℕ × ℕ))) : Type 0 where
  pub same : length new ≡ length old
  pub each : (x : ℕ) → x < length old → get_or new x None ≡ option_or (get_or old x None) (here x index (list_any (λ t. eqb t.0 x) terms))

pub noted_row : (count index : ℕ) (rows : List Row) (r : Row) (o next : Occurrences) → AreOccurrences count rows o → length rows ≡ index → WasNoted index r.terms o.first.items next.first.items → AreOccurrences count (rows ++ (r ∷ [])) next
noted_row count index rows r o next h n w = let e : index ≡ 0 + length rows = omega (arith, n) in record {
  counted = w.same ∙ h.counted;
  each = λ x l. w.each x (subst (λ m. x < m) (sym h.counted) l) ∙ ap (λ p. option_or p (here x index (occurs_in_row x r))) (h.each x l) ∙ ap (λ m. option_or (first_row x 0 rows) (here x m (occurs_in_row x r))) e ∙ sym (row_more x 0 rows r);
}

-- The rows from an index on are removed.
pub record WasForgotten (len : ℕ) (old new : List (Option (ℕ × ℕ))) : Type 0 where
  pub same : length new ≡ length old
  pub each : (x : ℕ) → x < length old → get_or new x None ≡ before len (get_or old x None)

pub first_noted : (count len : ℕ) (rows : List Row) (o next : Occurrences) → AreOccurrences count rows o → WasForgotten len o.first.items next.first.items → AreOccurrences count (take len rows) next
first_noted count len rows o next h w = let e : len ≡ 0 + len = omega arith in record {
  counted = w.same ∙ h.counted;
  each = λ x l. w.each x (subst (λ m. x < m) (sym h.counted) l) ∙ ap (before len) (h.each x l) ∙ ap (λ m. before m (first_row x 0 rows)) e ∙ sym (rows_before x 0 len rows);
}

-- An entry of the table says whether the variable occurs.
pub found_first : (count x : ℕ) (rows : List Row) (o : Occurrences) (first : List (Option (ℕ × ℕ))) (f d : Option (ℕ × ℕ)) → AreOccurrences count rows o → x < count → first ≡ o.first.items → f ≡ get_or first x d → option_map (λ (p : ℕ × ℕ). p.0) f ≡ cond (list_any (occurs_in_row x) rows) (Some x) None
found_first count x rows o first f d h l e g =
    let same : f ≡ get_or o.first.items x None = g ∙ ap (λ xs. get_or xs x d) e ∙ get_or_default o.first.items x d None (subst (λ m. x < m) (sym h.counted) l) in
    ap (option_map (λ (p : ℕ × ℕ). p.0)) (same ∙ h.each x l) ∙ variable_there x 0 rows
