-- If the row of an answer is among the rows of the path already, one more answer does not change
-- the rows of the signs.
use Rattle.std.proofs.Common.{◌≡◌, ℕ, List, [], ◌∷◌, ◌++◌, length, refl, sym, ap, ap₂, ◌∙◌, subst, Bool, true, false, not, cond, ◌==◌, ◌&&◌, ◌||◌}
use Rattle.std.specs.Prelude.{Some}
use Prim.Native.Nat.{zero, suc}
use Rattle.std.specs.List.{All, Contains, list_any}
use Rattle.std.proofs.lemmas.List.{append-nil}
use Rattle.std.proofs.lemmas.List.Elements.{All-nil, All-cons, All-head, All-tail, All-append, All-contains}
use Rattle.std.proofs.lemmas.List.Folds.{list_any-append}
use Rattle.heyvl_num.specs.Rational.{Rational, zeroʳ, ◌*ʳ◌}
use Rattle.heylo_formula.specs.Goals.{Goal}
use Rattle.heylo_formula.specs.Typing.{Types, types_in}
use Rattle.linear_rows.specs.Row.{Row}
use Rattle.linear_values.specs.Lin.{Lin, Terms, constant, variable, times, scaled}
use Rattle.linear_rows.specs.Numbers.{minus_oneʳ}
use Rattle.linear_form.specs.Query.{Atom, Taken, onto}
use Rattle.linear_values.specs.Tightening.{Claim, all_tightened}
use Rattle.linear_rows.specs.VariableOrder.{occurs_in_row}
use Rattle.linear_form.specs.PathRows.{claim, negated, answer_claims, path_claims, is_unsigned_type, occurs_in_terms, occurs_in_claims, sign_claims, with_signs, rows_of}
use Rattle.linear_form.specs.RowLists.{ArePathRows}
use Rattle.linear_rows.specs.Solutions.{MeetsAt}
use Rattle.linear_form.specs.RowListLaws.{RepeatedRowsStand}
use Rattle.linear_form.proofs.PathRowSteps.{claims_onto}
use Rattle.linear_form.proofs.DeniedGoalPlaces.{two_parts}
use Rattle.linear_form.proofs.RowsOfClaims.{joined, tightened_append, not_zero}
use Rattle.linear_form.proofs.SignRows.{claims_occur}

-- ---- A repeated row brings no variable

none_each : (x : ℕ) (rows : List Row) → list_any (occurs_in_row x) rows ≡ false → All (λ r. occurs_in_row x r ≡ false) rows
none_each x [] e = All-nil (λ r. occurs_in_row x r ≡ false)
none_each x (r ∷ rows) e = go (occurs_in_row x r) refl e (none_each x rows)
  where
    go : (b : Bool) → occurs_in_row x r ≡ b → (b || list_any (occurs_in_row x) rows) ≡ false → (list_any (occurs_in_row x) rows ≡ false → All (λ q. occurs_in_row x q ≡ false) rows) → All (λ q. occurs_in_row x q ≡ false) (r ∷ rows)
    go true k e ih = absurd (cc)
    go false k e ih = All-cons (λ q. occurs_in_row x q ≡ false) r rows k (ih e)

occurs_already : (x : ℕ) (rows : List Row) (r : Row) → Contains rows r → list_any (occurs_in_row x) (rows ++ (r ∷ [])) ≡ list_any (occurs_in_row x) rows
occurs_already x rows r c = list_any-append (occurs_in_row x) rows (r ∷ []) ∙ go (list_any (occurs_in_row x) rows) refl
  where
    go : (b : Bool) → list_any (occurs_in_row x) rows ≡ b → (b || (occurs_in_row x r || false)) ≡ b
    go true k = refl
    go false k = ap (λ b. b || false) (All-contains (λ q. occurs_in_row x q ≡ false) rows r (none_each x rows k) c)

claims_repeat : (types : Types) (x : ℕ) (ks ls : List Claim) (rows : List Row) (r : Row) → all_tightened types ks ≡ Some rows → all_tightened types ls ≡ Some (rows ++ (r ∷ [])) → Contains rows r → occurs_in_claims x ls ≡ occurs_in_claims x ks
claims_repeat types x ks ls rows r e f c = sym (claims_occur types x ls (rows ++ (r ∷ [])) f) ∙ occurs_already x rows r c ∙ claims_occur types x ks rows e

-- ---- An answer and the opposite answer are about the same variables

times_occurs : (x : ℕ) (w : Rational) (ts : Terms) → occurs_in_terms x (times w ts) ≡ occurs_in_terms x ts
times_occurs x w [] = refl
times_occurs x w (t ∷ ts) = ap (λ b. (x == t.0) || b) (times_occurs x w ts)

negated_occurs : (x : ℕ) (a : Lin) → occurs_in_terms x (negated a).terms ≡ occurs_in_terms x a.terms
unfolding scaled
negated_occurs x a = ap (λ b. occurs_in_terms x (cond b (constant zeroʳ) (record { terms = times minus_oneʳ a.terms; rest = minus_oneʳ *ʳ a.rest })).terms) not_zero ∙ times_occurs x minus_oneʳ a.terms

other_occurs : (x : ℕ) (q : Atom) (held : Bool) → occurs_in_claims x (answer_claims q (not held)) ≡ occurs_in_claims x (answer_claims q held)
other_occurs x (Atom.truth y) held = refl
other_occurs x (Atom.row a strict) true = ap (λ b. b || false) (negated_occurs x a)
other_occurs x (Atom.row a strict) false = ap (λ b. b || false) (sym (negated_occurs x a))

occur_behind : (x : ℕ) (ks ls ms : List Claim) → occurs_in_claims x ls ≡ occurs_in_claims x ms → occurs_in_claims x (ks ++ ls) ≡ occurs_in_claims x (ks ++ ms)
occur_behind x [] ls ms e = e
occur_behind x (k ∷ ks) ls ms e = ap (λ b. occurs_in_terms x k.left.terms || b) (occur_behind x ks ls ms e)

other_path_occurs : (x : ℕ) (ps : List Taken) (q : Atom) (held : Bool) → occurs_in_claims x (path_claims (onto ps q (not held))) ≡ occurs_in_claims x (path_claims (onto ps q held))
other_path_occurs x ps q held = ap (occurs_in_claims x) (claims_onto ps q (not held)) ∙ occur_behind x (path_claims ps) (answer_claims q (not held)) (answer_claims q held) (other_occurs x q held) ∙ ap (occurs_in_claims x) (sym (claims_onto ps q held))

-- ---- The signs of claims about the same variables

same_signs : (types : Types) (ks ls : List Claim) (n : ℕ) → ((x : ℕ) → occurs_in_claims x ls ≡ occurs_in_claims x ks) → sign_claims types ls n ≡ sign_claims types ks n
same_signs types ks ls zero h = refl
same_signs types ks ls (suc n) h = ap₂ (λ ms b. ms ++ cond (is_unsigned_type (types n) && b) (claim (negated (variable n)) false ∷ []) []) (same_signs types ks ls n h) (h n)

signed_alike : (g : Goal) (ps qs : List Taken) (rows signs : List Row) → ((x : ℕ) → occurs_in_claims x (path_claims qs) ≡ occurs_in_claims x (path_claims ps)) → ArePathRows g qs rows → all_tightened (types_in g.types) (sign_claims (types_in g.types) (path_claims ps) (length g.types)) ≡ Some signs → rows_of g qs false ≡ Some (rows ++ signs)
signed_alike g ps qs rows signs h k e = ap (λ ks. all_tightened (types_in g.types) (with_signs g ks)) (append-nil (path_claims qs)) ∙ tightened_append (types_in g.types) (path_claims qs) (sign_claims (types_in g.types) (path_claims qs) (length g.types)) ∙ ap₂ joined k.are_rows (ap (all_tightened (types_in g.types)) (same_signs (types_in g.types) (path_claims ps) (path_claims qs) (length g.types) h) ∙ e)

-- ---- The path with one more answer

met_parts : (f : ℕ → Rational) (rows signs : List Row) → All (MeetsAt f) (rows ++ signs) → All (MeetsAt f) rows × All (MeetsAt f) signs
met_parts f [] signs h = (All-nil (MeetsAt f), h)
met_parts f (r ∷ rows) signs h = let m = met_parts f rows signs (All-tail (MeetsAt f) r (rows ++ signs) h) in (All-cons (MeetsAt f) r rows (All-head (MeetsAt f) r (rows ++ signs) h) m.0, m.1)

meet_again : (f : ℕ → Rational) (rows signs : List Row) (r : Row) → Contains rows r → All (MeetsAt f) (rows ++ signs) → All (MeetsAt f) ((rows ++ (r ∷ [])) ++ signs)
meet_again f rows signs r c h =
    let m = met_parts f rows signs h in
    All-append (MeetsAt f) (rows ++ (r ∷ [])) signs (All-append (MeetsAt f) rows (r ∷ []) m.0 (All-cons (MeetsAt f) r [] (All-contains (MeetsAt f) rows r m.0 c) (All-nil (MeetsAt f)))) m.1

pub repeated_stand : RepeatedRowsStand
repeated_stand g ps q held rows r other h k m c kept =
    let parts = two_parts (types_in g.types) (path_claims ps) (sign_claims (types_in g.types) (path_claims ps) (length g.types)) kept.rows (ap (λ ks. all_tightened (types_in g.types) (with_signs g ks)) (sym (append-nil (path_claims ps))) ∙ kept.are_rows) in
    let first : Some parts.first ≡ Some rows = sym parts.are_first ∙ h.are_rows in
    let same : parts.first ≡ rows = cc in
    let whole : kept.rows ≡ rows ++ parts.second = parts.whole ∙ ap (λ z. z ++ parts.second) same in (
      record {
        rows = (rows ++ (r ∷ [])) ++ parts.second;
        are_rows = signed_alike g ps (onto ps q held) (rows ++ (r ∷ [])) parts.second again k parts.are_second;
        solvable = record { at_values = kept.solvable.at_values; meets = meet_again kept.solvable.at_values rows parts.second r c (subst (All (MeetsAt kept.solvable.at_values)) whole kept.solvable.meets) };
      },
      record {
        signs = parts.second;
        are_rows = signed_alike g ps (onto ps q (not held)) (rows ++ (other ∷ [])) parts.second (λ x. other_path_occurs x ps q held ∙ again x) m parts.are_second;
      },
    )
  where
    again : (x : ℕ) → occurs_in_claims x (path_claims (onto ps q held)) ≡ occurs_in_claims x (path_claims ps)
    again x = claims_repeat (types_in g.types) x (path_claims ps) (path_claims (onto ps q held)) rows r h.are_rows k.are_rows c
