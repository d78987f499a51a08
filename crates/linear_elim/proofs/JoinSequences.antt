-- Adding the combinations of a step.
use Rattle.std.proofs.Common.{◌≡◌, ℕ, ◌+◌, ◌<◌, ◌≤◌, not, List, [], ◌∷◌, ◌++◌, length, get_or, drop, refl, sym, ap, ap₂, ◌∙◌, arith, Bool, true, false, cond, ◌&&◌}
use Rattle.std.specs.Prelude.{Option, Some, None, is_some}
use Rattle.std.specs.List.{filter}
use Rattle.std.specs.Option.{option_or}
use Prim.Native.Nat.{suc}
use Rattle.std.proofs.Math.Seq.{drop-cons}
use Rattle.std.proofs.lemmas.List.{drop_all}
use Rattle.linear_elim.specs.Joins.{Derived, join, join_fits}
use Rattle.linear_elim.specs.Steps.{fits_each, pairs_fit, joins, pairs, put_row, strongest, has_terms, tidied, is_contradiction, contradiction, lowers, uppers, kept, step_fits, eliminate_one}
use Rattle.linear_elim.specs.Elimination.{step_of}
use Rattle.linear_elim.specs.internal.GatheredRows.{found_after, rows_after, found_all, rows_all}

pub rest_item : {A : Type 0} (xs : List A) (i : ℕ) (x : A) → i < length xs → x ≡ get_or xs i x → drop i xs ≡ x ∷ drop (i + 1) xs
rest_item xs i x l e = drop-cons xs i x l ∙ ap₂ (λ y n. y ∷ drop n xs) (sym e) (next i)
  where
    next : (i : ℕ) → suc i ≡ i + 1
    next i = omega arith

pub rest_end : {A : Type 0} (xs : List A) (i : ℕ) → length xs ≤ i → drop i xs ≡ []
rest_end xs i h = drop_all i xs h

-- ---- The combinations of one row

pub each_fits_more : (x : ℕ) (l : Derived) (us : List Derived) (i : ℕ) (u : Derived) (b : Bool) → drop i us ≡ u ∷ drop (i + 1) us → true ≡ join_fits x l u → fits_each x l (drop i us) ≡ b → fits_each x l (drop (i + 1) us) ≡ b
unfolding fits_each
each_fits_more x l us i u b e f h = ap (λ c. c && fits_each x l (drop (i + 1) us)) f ∙ ap (fits_each x l) (sym e) ∙ h

pub each_fits_stop : (x : ℕ) (l : Derived) (us : List Derived) (i : ℕ) (u : Derived) (b : Bool) → drop i us ≡ u ∷ drop (i + 1) us → false ≡ join_fits x l u → fits_each x l (drop i us) ≡ b → false ≡ b
unfolding fits_each
each_fits_stop x l us i u b e f h = ap (λ c. c && fits_each x l (drop (i + 1) us)) f ∙ ap (fits_each x l) (sym e) ∙ h

pub each_fits_end : (x : ℕ) (l : Derived) (us : List Derived) (i : ℕ) (b : Bool) → length us ≤ i → fits_each x l (drop i us) ≡ b → true ≡ b
unfolding fits_each
each_fits_end x l us i b e h = ap (fits_each x l) (sym (rest_end us i e)) ∙ h

pub each_found_more : (x : ℕ) (l : Derived) (us : List Derived) (i : ℕ) (u d : Derived) (o now f : Option Derived) → drop i us ≡ u ∷ drop (i + 1) us → d ≡ join x l u → now ≡ found_after d o → found_all (joins x l (drop i us)) o ≡ f → found_all (joins x l (drop (i + 1) us)) now ≡ f
unfolding found_all
each_found_more x l us i u d o now f e j n h = ap (found_all (joins x l (drop (i + 1) us))) (n ∙ ap (λ y. found_after y o) j) ∙ ap (λ vs. found_all (joins x l vs) o) (sym e) ∙ h

pub each_rows_more : (x : ℕ) (l : Derived) (us : List Derived) (i : ℕ) (u d : Derived) (ks now f : List Derived) → drop i us ≡ u ∷ drop (i + 1) us → d ≡ join x l u → now ≡ rows_after d ks → rows_all (joins x l (drop i us)) ks ≡ f → rows_all (joins x l (drop (i + 1) us)) now ≡ f
unfolding rows_all
each_rows_more x l us i u d ks now f e j n h = ap (rows_all (joins x l (drop (i + 1) us))) (n ∙ ap (λ y. rows_after y ks) j) ∙ ap (λ vs. rows_all (joins x l vs) ks) (sym e) ∙ h

pub each_found_end : (x : ℕ) (l : Derived) (us : List Derived) (i : ℕ) (o f : Option Derived) → length us ≤ i → found_all (joins x l (drop i us)) o ≡ f → o ≡ f
unfolding found_all
each_found_end x l us i o f e h = ap (λ vs. found_all (joins x l vs) o) (sym (rest_end us i e)) ∙ h

pub each_rows_end : (x : ℕ) (l : Derived) (us : List Derived) (i : ℕ) (ks f : List Derived) → length us ≤ i → rows_all (joins x l (drop i us)) ks ≡ f → ks ≡ f
unfolding rows_all
each_rows_end x l us i ks f e h = ap (λ vs. rows_all (joins x l vs) ks) (sym (rest_end us i e)) ∙ h

-- ---- The combinations of all rows

pub found-append : (xs ys : List Derived) (o : Option Derived) → found_all (xs ++ ys) o ≡ found_all ys (found_all xs o)
unfolding found_all
found-append [] ys o = refl
found-append (x ∷ xs) ys o = found-append xs ys (found_after x o)

pub rows-append : (xs ys ks : List Derived) → rows_all (xs ++ ys) ks ≡ rows_all ys (rows_all xs ks)
unfolding rows_all
rows-append [] ys ks = refl
rows-append (x ∷ xs) ys ks = rows-append xs ys (rows_after x ks)

pub all_fits_more : (x : ℕ) (ls us : List Derived) (i : ℕ) (l : Derived) (b : Bool) → drop i ls ≡ l ∷ drop (i + 1) ls → true ≡ fits_each x l us → pairs_fit x (drop i ls) us ≡ b → pairs_fit x (drop (i + 1) ls) us ≡ b
unfolding pairs_fit
all_fits_more x ls us i l b e f h = ap (λ c. c && pairs_fit x (drop (i + 1) ls) us) f ∙ ap (λ vs. pairs_fit x vs us) (sym e) ∙ h

pub all_fits_stop : (x : ℕ) (ls us : List Derived) (i : ℕ) (l : Derived) (b : Bool) → drop i ls ≡ l ∷ drop (i + 1) ls → false ≡ fits_each x l us → pairs_fit x (drop i ls) us ≡ b → false ≡ b
unfolding pairs_fit
all_fits_stop x ls us i l b e f h = ap (λ c. c && pairs_fit x (drop (i + 1) ls) us) f ∙ ap (λ vs. pairs_fit x vs us) (sym e) ∙ h

pub all_fits_end : (x : ℕ) (ls us : List Derived) (i : ℕ) (b : Bool) → length ls ≤ i → pairs_fit x (drop i ls) us ≡ b → true ≡ b
unfolding pairs_fit
all_fits_end x ls us i b e h = ap (λ vs. pairs_fit x vs us) (sym (rest_end ls i e)) ∙ h

pub all_found_more : (x : ℕ) (ls us : List Derived) (i : ℕ) (l : Derived) (o now f : Option Derived) → drop i ls ≡ l ∷ drop (i + 1) ls → now ≡ found_all (joins x l us) o → found_all (pairs x (drop i ls) us) o ≡ f → found_all (pairs x (drop (i + 1) ls) us) now ≡ f
unfolding pairs
all_found_more x ls us i l o now f e n h = ap (found_all (pairs x (drop (i + 1) ls) us)) n ∙ sym (found-append (joins x l us) (pairs x (drop (i + 1) ls) us) o) ∙ ap (λ vs. found_all (pairs x vs us) o) (sym e) ∙ h

pub all_rows_more : (x : ℕ) (ls us : List Derived) (i : ℕ) (l : Derived) (ks now f : List Derived) → drop i ls ≡ l ∷ drop (i + 1) ls → now ≡ rows_all (joins x l us) ks → rows_all (pairs x (drop i ls) us) ks ≡ f → rows_all (pairs x (drop (i + 1) ls) us) now ≡ f
unfolding pairs
all_rows_more x ls us i l ks now f e n h = ap (rows_all (pairs x (drop (i + 1) ls) us)) n ∙ sym (rows-append (joins x l us) (pairs x (drop (i + 1) ls) us) ks) ∙ ap (λ vs. rows_all (pairs x vs us) ks) (sym e) ∙ h

pub all_found_end : (x : ℕ) (ls us : List Derived) (i : ℕ) (o f : Option Derived) → length ls ≤ i → found_all (pairs x (drop i ls) us) o ≡ f → o ≡ f
unfolding found_all pairs
all_found_end x ls us i o f e h = ap (λ vs. found_all (pairs x vs us) o) (sym (rest_end ls i e)) ∙ h

pub all_rows_end : (x : ℕ) (ls us : List Derived) (i : ℕ) (ks f : List Derived) → length ls ≤ i → rows_all (pairs x (drop i ls) us) ks ≡ f → ks ≡ f
unfolding rows_all pairs
all_rows_end x ls us i ks f e h = ap (λ vs. rows_all (pairs x vs us) ks) (sym (rest_end ls i e)) ∙ h

-- ---- Gathered rows

found_all-is : (ds : List Derived) (o : Option Derived) → found_all ds o ≡ option_or o (contradiction ds)
unfolding found_all contradiction
found_all-is [] None = refl
found_all-is [] (Some c) = refl
found_all-is (d ∷ ds) (Some c) = found_all-is ds (Some c)
found_all-is (d ∷ ds) None = found_all-is ds (cond (is_contradiction d.row) (Some d) None) ∙ go (is_contradiction d.row)
  where
    go : (b : Bool) → option_or (cond b (Some d) None) (contradiction ds) ≡ cond b (Some d) (contradiction ds)
    go true = refl
    go false = refl

rows_all-is : (ds ks : List Derived) → rows_all ds ks ≡ strongest ks (filter (λ r. has_terms r.row.terms) ds)
unfolding rows_all strongest
rows_all-is [] ks = refl
rows_all-is (d ∷ ds) ks = rows_all-is ds (rows_after d ks) ∙ go (has_terms d.row.terms)
  where
    go : (b : Bool) → strongest (cond b (put_row d ks) ks) (filter (λ r. has_terms r.row.terms) ds) ≡ strongest ks (cond b (d ∷ filter (λ r. has_terms r.row.terms) ds) (filter (λ r. has_terms r.row.terms) ds))
    go true = refl
    go false = refl

pub found_none : (ds : List Derived) → found_all ds None ≡ contradiction ds
found_none ds = found_all-is ds None

pub rows_none : (ds : List Derived) → rows_all ds [] ≡ tidied ds
rows_none ds = rows_all-is ds []

pub step_found : (x : ℕ) (rows ls us : List Derived) (o now : Option Derived) → ls ≡ lowers x rows → us ≡ uppers x rows → o ≡ found_all (kept x rows) None → now ≡ found_all (pairs x ls us) o → now ≡ contradiction (eliminate_one x rows)
step_found x rows ls us o now e h k n = n ∙ ap₂ (λ ps qs. found_all (pairs x ps qs) o) e h ∙ ap (found_all (pairs x (lowers x rows) (uppers x rows))) k ∙ sym (found-append (kept x rows) (pairs x (lowers x rows) (uppers x rows)) None) ∙ found_none (eliminate_one x rows)

pub step_rows : (x : ℕ) (rows ls us ks now : List Derived) → ls ≡ lowers x rows → us ≡ uppers x rows → ks ≡ rows_all (kept x rows) [] → now ≡ rows_all (pairs x ls us) ks → now ≡ tidied (eliminate_one x rows)
step_rows x rows ls us ks now e h k n = n ∙ ap₂ (λ ps qs. rows_all (pairs x ps qs) ks) e h ∙ ap (rows_all (pairs x (lowers x rows) (uppers x rows))) k ∙ sym (rows-append (kept x rows) (pairs x (lowers x rows) (uppers x rows)) []) ∙ rows_none (eliminate_one x rows)

-- ---- The result of a step

step_fit : (x : ℕ) (rows ls us : List Derived) (b : Bool) → ls ≡ lowers x rows → us ≡ uppers x rows → b ≡ pairs_fit x ls us → b ≡ true → true ≡ step_fits x rows
step_fit x rows ls us b e h f t = sym t ∙ f ∙ ap₂ (pairs_fit x) e h

step_same : (x : ℕ) (rows ls us : List Derived) → ls ≡ lowers x rows → us ≡ uppers x rows → record { var = x; lows = ls; ups = us } ≡ step_of x rows
step_same x rows ls us e h = rw (e, h) refl

none_there : (o : Option Derived) (b : Bool) → is_some o ≡ not b → b ≡ true → o ≡ None
none_there None b e h = refl
none_there (Some d) b e h = absurd (cc)

pub step_kept : (x : ℕ) (rows ls us lows ups ks now : List Derived) (o found : Option Derived) (b : Bool) → ls ≡ lowers x rows → us ≡ uppers x rows → lows ≡ lowers x rows → ups ≡ uppers x rows → o ≡ found_all (kept x rows) None → ks ≡ rows_all (kept x rows) [] → b ≡ pairs_fit x ls us → b ≡ true → found ≡ found_all (pairs x ls us) o → now ≡ rows_all (pairs x ls us) ks → (true ≡ step_fits x rows) × (record { var = x; lows = lows; ups = ups } ≡ step_of x rows) × (found ≡ contradiction (eliminate_one x rows)) × (now ≡ tidied (eliminate_one x rows))
step_kept x rows ls us lows ups ks now o found b e h l u k r f t n m = (step_fit x rows ls us b e h f t, step_same x rows lows ups l u, step_found x rows ls us o found e h k n, step_rows x rows ls us ks now e h r m)

pub step_counted : (x : ℕ) (rows ls us ks : List Derived) (o found : Option Derived) (n : ℕ) (b : Bool) → ls ≡ lowers x rows → us ≡ uppers x rows → o ≡ found_all (kept x rows) None → ks ≡ rows_all (kept x rows) [] → is_some o ≡ not b → b ≡ true → (pairs_fit x ls us ≡ true) × (found ≡ found_all (pairs x ls us) None) × (n ≡ length (rows_all (pairs x ls us) ks)) → 4096 < n → (true ≡ step_fits x rows) × (found ≡ contradiction (eliminate_one x rows)) × (n ≡ length (tidied (eliminate_one x rows))) × (4096 < n)
step_counted x rows ls us ks o found n b e h k r i t c l = (step_fit x rows ls us true e h (sym c.0) refl, step_found x rows ls us None found e h (sym (none_there o b i t) ∙ k) c.1, c.2 ∙ ap length (step_rows x rows ls us ks (rows_all (pairs x ls us) ks) e h r refl), l)
