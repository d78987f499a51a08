-- Lists of terms that are counted by a table.
use Rattle.std.proofs.Common.{◌≡◌, ℕ, ◌+◌, ◌<◌, ◌≤◌, List, [], ◌∷◌, ◌++◌, length, get_or, set, take, drop, append_assoc, append-nil, refl, sym, ap, ap₂, subst, ◌∙◌, arith, Bool, true, false, cond, not, ◌&&◌, ◌||◌, eqb, ltb, ◌⊎◌, inl, inr, length-append}
use Rattle.std.specs.Prelude.{ℤ, pos, Option, Some, None}
use Rattle.std.specs.List.{All}
use Rattle.std.specs.Int.Signed.{lt_z}
use Rattle.heyvl_num.specs.Value.{is_zero_num}
use Rattle.std.proofs.Math.Seq.{get_or-set_same, get_or-set_other}
use Rattle.std.proofs.lemmas.List.{get_or_read, get_or_default, get_or_at, get_or_append_left, map_more, drop_more, drop_all}
use Rattle.std.proofs.lemmas.List.Elements.{All-nil, All-cons, All-head, All-tail, All-append, All-weaker, All-filter, filter_passes}
use Prim.Native.Nat.{suc}
use Rattle.linear_rows.specs.Terms.{coefficient}
use Rattle.linear_elim.specs.Joins.{Derived, is_below_zero, is_above_zero}
use Rattle.linear_rows.specs.SameTerms.{same_terms}
use Rattle.linear_elim.specs.Steps.{is_stronger, put_row, has_terms, joins, pairs, lowers, uppers}
use Rattle.linear_elim.specs.Elimination.{Step}
use Rattle.linear_elim.specs.declared.tables.Name.{Name}
use Rattle.linear_elim.specs.declared.tables.Table.{Table}
use Rattle.linear_elim.specs.internal.CountedRows.{put_terms, puts, all_terms, terms_of, AreDifferent, no_row, nth, join_at, terms_at, home, print_of, no_name, print_at, name_at, IsSplit, IsNumberOf, IsFull, IsAt, AreAt, IsTable, IsOther, IsFree, IsTaken, IsCounting, Puts, Lacks, Counts}
use Rattle.linear_elim.specs.internal.DerivedRows.{IsDerived}
use Rattle.linear_elim.specs.internal.Fingerprints.{hashed_all, fingerprint}
use Rattle.linear_elim.specs.internal.GatheredRows.{found_after, rows_after, rows_all}
use Rattle.linear_elim.specs.internal.Signless.{sign_terms, AreSignless}
use Rattle.linear_elim.proofs.Solutions.{all_map-out}
use Rattle.linear_rows.proofs.exported.SameTerms.{same_terms-is, terms-same}

-- ---- Lists of terms that are added

put-kept : (k t : List (ℕ × ℤ)) (seen : List (List (ℕ × ℤ))) → put_terms k seen ≡ seen → put_terms k (seen ++ t ∷ []) ≡ seen ++ t ∷ []
unfolding put_terms
put-kept k t [] e = absurd (cc)
put-kept k t (s ∷ ss) e = go (same_terms s k) (put-kept k t ss) e
  where
    go : (b : Bool) → (put_terms k ss ≡ ss → put_terms k (ss ++ t ∷ []) ≡ ss ++ t ∷ []) → cond b (s ∷ ss) (s ∷ put_terms k ss) ≡ s ∷ ss → cond b (s ∷ (ss ++ t ∷ [])) (s ∷ put_terms k (ss ++ t ∷ [])) ≡ s ∷ (ss ++ t ∷ [])
    go true ih e = refl
    go false ih e = let h : put_terms k ss ≡ ss = cc in ap (λ xs. s ∷ xs) (ih h)

put-last : (t : List (ℕ × ℤ)) (seen : List (List (ℕ × ℤ))) → put_terms t (seen ++ t ∷ []) ≡ seen ++ t ∷ []
unfolding put_terms
put-last t [] = ap (λ b. cond b (t ∷ []) (t ∷ t ∷ [])) (terms-same t)
put-last t (s ∷ ss) = go (same_terms s t) (put-last t ss)
  where
    go : (b : Bool) → put_terms t (ss ++ t ∷ []) ≡ ss ++ t ∷ [] → cond b (s ∷ (ss ++ t ∷ [])) (s ∷ put_terms t (ss ++ t ∷ [])) ≡ s ∷ (ss ++ t ∷ [])
    go true ih = refl
    go false ih = ap (λ xs. s ∷ xs) ih

put-new : (t : List (ℕ × ℤ)) (seen : List (List (ℕ × ℤ))) → All (λ k. same_terms k t ≡ false) seen → put_terms t seen ≡ seen ++ t ∷ []
unfolding put_terms
put-new t [] h = refl
put-new t (s ∷ ss) h = ap (λ b. cond b (s ∷ ss) (s ∷ put_terms t ss)) (All-head (λ k. same_terms k t ≡ false) s ss h) ∙ ap (λ xs. s ∷ xs) (put-new t ss (All-tail (λ k. same_terms k t ≡ false) s ss h))

put-either : (t : List (ℕ × ℤ)) (seen : List (List (ℕ × ℤ))) → (put_terms t seen ≡ seen) ⊎ (put_terms t seen ≡ seen ++ t ∷ [])
unfolding put_terms
put-either t [] = inr refl
put-either t (s ∷ ss) = go (same_terms s t) (put-either t ss)
  where
    go : (b : Bool) → (put_terms t ss ≡ ss) ⊎ (put_terms t ss ≡ ss ++ t ∷ []) → (cond b (s ∷ ss) (s ∷ put_terms t ss) ≡ s ∷ ss) ⊎ (cond b (s ∷ ss) (s ∷ put_terms t ss) ≡ s ∷ (ss ++ t ∷ []))
    go true ih = inl refl
    go false (inl e) = inl (ap (λ xs. s ∷ xs) e)
    go false (inr e) = inr (ap (λ xs. s ∷ xs) e)

puts-append : (xs ys ks : List (List (ℕ × ℤ))) → puts (xs ++ ys) ks ≡ puts ys (puts xs ks)
unfolding puts
puts-append [] ys ks = refl
puts-append (x ∷ xs) ys ks = puts-append xs ys (put_terms x ks)

again-put : (t : List (ℕ × ℤ)) (seen : List (List (ℕ × ℤ))) → puts seen [] ≡ seen → puts (put_terms t seen) [] ≡ put_terms t seen
unfolding puts
again-put t seen e = go (put-either t seen)
  where
    go : (put_terms t seen ≡ seen) ⊎ (put_terms t seen ≡ seen ++ t ∷ []) → puts (put_terms t seen) [] ≡ put_terms t seen
    go (inl f) = subst (λ xs. puts xs [] ≡ xs) (sym f) e
    go (inr f) = ap (λ xs. puts xs []) f ∙ puts-append seen (t ∷ []) [] ∙ ap (put_terms t) e

again-puts : (ts seen : List (List (ℕ × ℤ))) → puts seen [] ≡ seen → puts (puts ts seen) [] ≡ puts ts seen
unfolding puts
again-puts [] seen e = e
again-puts (t ∷ ts) seen e = again-puts ts (put_terms t seen) (again-put t seen e)

put_row-terms : (d : Derived) (ks : List Derived) → all_terms (put_row d ks) ≡ put_terms d.row.terms (all_terms ks)
unfolding put_row put_terms
put_row-terms d [] = refl
put_row-terms d (k ∷ ks) = go (same_terms k.row.terms d.row.terms) refl (is_stronger d.row k.row) (put_row-terms d ks)
  where
    go : (b : Bool) → same_terms k.row.terms d.row.terms ≡ b → (s : Bool) → all_terms (put_row d ks) ≡ put_terms d.row.terms (all_terms ks) → all_terms (cond b (cond s d k ∷ ks) (k ∷ put_row d ks)) ≡ cond b (k.row.terms ∷ all_terms ks) (k.row.terms ∷ put_terms d.row.terms (all_terms ks))
    go true e true ih = ap (λ t. t ∷ all_terms ks) (sym (same_terms-is _ _ e))
    go true e false ih = refl
    go false e s ih = ap (λ xs. k.row.terms ∷ xs) ih

pub rows_terms : (ds ks : List Derived) → all_terms (rows_all ds ks) ≡ puts (terms_of ds) (all_terms ks)
unfolding rows_all terms_of puts
rows_terms [] ks = refl
rows_terms (d ∷ ds) ks = rows_terms ds (rows_after d ks) ∙ go (has_terms d.row.terms)
  where
    go : (b : Bool) → puts (terms_of ds) (all_terms (cond b (put_row d ks) ks)) ≡ puts (cond b (d.row.terms ∷ terms_of ds) (terms_of ds)) (all_terms ks)
    go true = ap (puts (terms_of ds)) (put_row-terms d ks)
    go false = refl

pub tidy_differ : (ds ks : List Derived) → ks ≡ rows_all ds [] → AreDifferent ks
unfolding puts
tidy_differ ds ks e = let h : all_terms ks ≡ puts (terms_of ds) [] = ap all_terms e ∙ rows_terms ds [] in subst (λ xs. puts xs [] ≡ xs) (sym h) (again-puts (terms_of ds) [] refl)

-- ---- The terms of a name

below_test : (i n : ℕ) → i < n → ltb i n ≡ true
below_test i n h = grind arith

past_test : (i n : ℕ) → n ≤ i → ltb i n ≡ false
past_test i n h = grind arith

pub join_named : (s : Step) (ks : List Derived) (n : Name) (i j : ℕ) → n.low ≡ i → n.up ≡ j → i < length s.lows → (join_at s i j).row.terms ≡ terms_at s ks n
unfolding terms_at
join_named s ks n i j e f p =
    ap₂ (λ a b. (join_at s a b).row.terms) (sym e) (sym f)
    ∙ sym (ap (λ b. cond b (join_at s n.low n.up).row.terms (nth ks n.up).row.terms) (below_test n.low (length s.lows) (subst (λ m. m < length s.lows) (sym e) p)))

pub kept_named : (s : Step) (ks : List Derived) (n : Name) (i j : ℕ) → n.low ≡ i → n.up ≡ j → length s.lows ≤ i → (nth ks j).row.terms ≡ terms_at s ks n
unfolding terms_at
kept_named s ks n i j e f p =
    ap (λ a. (nth ks a).row.terms) (sym f)
    ∙ sym (ap (λ b. cond b (join_at s n.low n.up).row.terms (nth ks n.up).row.terms) (past_test n.low (length s.lows) (subst (λ m. length s.lows ≤ m) (sym e) p)))

pub read_both : {A : Type 0} (g : ℕ → Derived → Derived → A) (s : Step) (x : ℕ) (ls us : List Derived) (i j : ℕ) (l u : Derived) → x ≡ s.var → ls ≡ s.lows → us ≡ s.ups → i < length ls → j < length us → l ≡ get_or ls i l → u ≡ get_or us j u → g x l u ≡ g s.var (nth s.lows i) (nth s.ups j)
read_both g s x ls us i j l u e a b p q h k =
    ap₂ (g x) (get_or_read ls i l p h no_row) (get_or_read us j u q k no_row)
    ∙ ap (λ y. g y (nth ls i) (nth us j)) e
    ∙ ap₂ (λ vs ws. g s.var (nth vs i) (nth ws j)) a b

pub kept_read : (ks : List Derived) (j : ℕ) (k : Derived) → j < length ks → k ≡ get_or ks j k → k.row.terms ≡ (nth ks j).row.terms
kept_read ks j k p g = ap (λ (z : Derived). z.row.terms) (get_or_read ks j k p g no_row)

pub split_is : (x : ℕ) (rows ls us : List Derived) → ls ≡ lowers x rows → us ≡ uppers x rows → All IsDerived rows → IsSplit (record { var = x; lows = ls; ups = us })
split_is x rows ls us e h d = record {
  lows_derived = subst (All IsDerived) (sym e) (All-filter _ IsDerived rows d);
  ups_derived = subst (All IsDerived) (sym h) (All-filter _ IsDerived rows d);
  lower = subst (All (λ r. is_below_zero (coefficient x r.row.terms) ≡ true)) (sym e) (filter_passes (λ r. is_below_zero (coefficient x r.row.terms)) rows);
  upper = subst (All (λ r. is_above_zero (coefficient x r.row.terms) ≡ true)) (sym h) (filter_passes (λ r. is_above_zero (coefficient x r.row.terms)) rows);
}

-- ---- Places

below : (i j : ℕ) → ltb i j ≡ true → i < j
below i j e = grind arith

not_below : (i j : ℕ) → ltb i j ≡ false → j ≤ i
not_below i j e = grind arith

level : (i j : ℕ) → eqb i j ≡ true → i ≡ j
level i j e = grind arith

not_level : (i j : ℕ) → eqb i j ≡ false → i ≡ j → ⊥
not_level i j e h = grind arith

clash : (f : Name → List (ℕ × ℤ)) (table : Table) (t : List (ℕ × ℤ)) (s p : ℕ) → IsFree f table t s p → IsAt f table.places table.prints.items table.names.items t → ⊥
clash f table t s p h a = go (ltb a.place s) refl
  where
    go : (b : Bool) → ltb a.place s ≡ b → ⊥
    go true e = (h.before a.place a.from (below a.place s e)).1 a.print a.terms
    go false e = a.filled s h.from (not_below a.place s e) h.empty

nowhere : (f : Name → List (ℕ × ℤ)) (table : Table) (t : List (ℕ × ℤ)) (s p : ℕ) → IsFree f table t s p → (k : List (ℕ × ℤ)) → IsAt f table.places table.prints.items table.names.items k → same_terms k t ≡ false
nowhere f table t s p h k a = go (same_terms k t) refl
  where
    go : (b : Bool) → same_terms k t ≡ b → b ≡ false
    go true e = absurd (clash f table t s p h (subst (IsAt f table.places table.prints.items table.names.items) (same_terms-is k t e) a))
    go false e = refl

pub lacks_at : (f : Name → List (ℕ × ℤ)) (table : Table) (t : List (ℕ × ℤ)) (ps : List ℕ) (ns : List Name) (s h n : ℕ) → n ≡ fingerprint t → ps ≡ table.prints.items → ns ≡ table.names.items → h ≡ home table.places n → h ≤ s → s < length ps → s < length ns → print_at ps s ≡ 0 → ((j : ℕ) → home table.places n ≤ j → j < s → IsFull ps j × (print_at ps j ≡ print_of n → ⊥)) → Lacks f table t
lacks_at f table t ps ns s h n e p q g l w m z b =
    let i = subst (λ k. (j : ℕ) → home table.places k ≤ j → j < s → IsFull table.prints.items j × (print_at table.prints.items j ≡ print_of k → ⊥)) e (subst (λ xs. (j : ℕ) → home table.places n ≤ j → j < s → IsFull xs j × (print_at xs j ≡ print_of n → ⊥)) p b) in
    let r : IsFree f table t s (print_of (fingerprint t)) = record { within = subst (λ xs. s < length xs) p w; named = subst (λ xs. s < length xs) q m; empty = subst (λ xs. print_at xs s ≡ 0) p z; from = subst (λ k. k ≤ s) (g ∙ ap (home table.places) e) l; before = λ j u v. ((i j u v).0, λ x y. (i j u v).1 x); is_print = refl } in
    λ seen k. All-weaker (IsAt f table.places table.prints.items table.names.items) (λ k. same_terms k t ≡ false) (nowhere f table t s (print_of (fingerprint t)) r) seen k.complete

pub rows_lack : (f : Name → List (ℕ × ℤ)) (old new : Table) (ds ks : List Derived) (xs : List ℕ) → AreDifferent ks → IsTable f old (puts (all_terms ks) []) → Counts f old new ds → All (λ x. Lacks f new (sign_terms x)) xs → AreSignless xs (rows_all ds ks)
unfolding terms_of puts
rows_lack f old new ds ks xs e t k l =
    let h = k [] (puts (terms_of ds) (puts (all_terms ks) [])) (record { seen = puts (all_terms ks) []; is_table = t; whole = ap (λ vs. puts (terms_of vs) (puts (all_terms ks) [])) (append-nil ds) }) in
    let w = h.whole ∙ ap (puts (terms_of ds)) e ∙ sym (rows_terms ds ks) in
    All-weaker (λ x. Lacks f new (sign_terms x)) (λ x. All (λ r. same_terms r.row.terms (sign_terms x) ≡ false) (rows_all ds ks)) (λ x m. all_map-out (λ u. same_terms u (sign_terms x) ≡ false) (λ (d : Derived). d.row.terms) (rows_all ds ks) (subst (All (λ u. same_terms u (sign_terms x) ≡ false)) w (m h.seen h.is_table))) xs l

not_zero : (p n : ℕ) → p ≡ print_of n → p ≡ 0 → ⊥
not_zero p n e h = omega (arith, e, h)

filled_table : (f : Name → List (ℕ × ℤ)) (table : Table) (seen : List (List (ℕ × ℤ))) (t : List (ℕ × ℤ)) (s p : ℕ) (name : Name) → IsTable f table seen → IsFree f table t s p → f name ≡ t → AreAt f table.places (set table.prints.items s p) (set table.names.items s name) (table.count + 1) (put_terms t seen)
filled_table f table seen t s p name h r m = subst (AreAt f table.places (set table.prints.items s p) (set table.names.items s name) (table.count + 1)) (sym (put-new t seen (All-weaker (IsAt f table.places table.prints.items table.names.items) (λ k. same_terms k t ≡ false) (nowhere f table t s p r) seen h.complete))) (record { sound = sound; complete = All-append (IsAt f table.places (set table.prints.items s p) (set table.names.items s name)) seen (t ∷ []) (All-weaker (IsAt f table.places table.prints.items table.names.items) (IsAt f table.places (set table.prints.items s p) (set table.names.items s name)) stays seen h.complete) (All-cons (IsAt f table.places (set table.prints.items s p) (set table.names.items s name)) t [] here (All-nil _)); counted = one_more h.counted })
  where
    one_more : table.count ≡ length seen → table.count + 1 ≡ length (seen ++ t ∷ [])
    one_more e = simp length-append (omega (arith, e))

    print_here : print_at (set table.prints.items s p) s ≡ p
    print_here = get_or-set_same table.prints.items s p 0 r.within

    name_here : name_at (set table.names.items s name) s ≡ name
    name_here = get_or-set_same table.names.items s name no_name r.named

    print_there : (j : ℕ) → (j ≡ s → ⊥) → print_at (set table.prints.items s p) j ≡ print_at table.prints.items j
    print_there j d = get_or-set_other table.prints.items s j p 0 d

    name_there : (j : ℕ) → (j ≡ s → ⊥) → name_at (set table.names.items s name) j ≡ name_at table.names.items j
    name_there j d = get_or-set_other table.names.items s j name no_name d

    full_here : IsFull (set table.prints.items s p) s
    full_here e = not_zero p (fingerprint t) r.is_print (sym print_here ∙ e)

    still_full : (j : ℕ) → IsFull table.prints.items j → IsFull (set table.prints.items s p) j
    still_full j k = go (eqb j s) refl
      where
        go : (b : Bool) → eqb j s ≡ b → IsFull (set table.prints.items s p) j
        go true e = subst (IsFull (set table.prints.items s p)) (sym (level j s e)) full_here
        go false e = λ z. k (sym (print_there j (not_level j s e)) ∙ z)

    stays : (k : List (ℕ × ℤ)) → IsAt f table.places table.prints.items table.names.items k → IsAt f table.places (set table.prints.items s p) (set table.names.items s name) k
    stays k a =
        let d : a.place ≡ s → ⊥ = λ (e : a.place ≡ s). a.filled a.place a.from (omega arith) (ap (print_at table.prints.items) e ∙ r.empty) in
        record { place = a.place; from = a.from; filled = λ j l u. still_full j (a.filled j l u); print = print_there a.place d ∙ a.print; terms = ap f (name_there a.place d) ∙ a.terms }

    before_full : (j : ℕ) → home table.places (fingerprint t) ≤ j → j ≤ s → IsFull (set table.prints.items s p) j
    before_full j l u = go (eqb j s) refl
      where
        go : (b : Bool) → eqb j s ≡ b → IsFull (set table.prints.items s p) j
        go true e = subst (IsFull (set table.prints.items s p)) (sym (level j s e)) full_here
        go false e = let d = not_level j s e in still_full j (r.before j l (omega (arith, u, d))).0

    here : IsAt f table.places (set table.prints.items s p) (set table.names.items s name) t
    here = record { place = s; from = r.from; filled = before_full; print = print_here ∙ r.is_print; terms = ap f name_here ∙ m }

    sound : (j : ℕ) → IsFull (set table.prints.items s p) j → put_terms (f (name_at (set table.names.items s name) j)) (seen ++ t ∷ []) ≡ seen ++ t ∷ []
    sound j k = go (eqb j s) refl
      where
        go : (b : Bool) → eqb j s ≡ b → put_terms (f (name_at (set table.names.items s name) j)) (seen ++ t ∷ []) ≡ seen ++ t ∷ []
        go true e = ap (λ u. put_terms u (seen ++ t ∷ [])) (ap (λ i. f (name_at (set table.names.items s name) i)) (level j s e) ∙ ap f name_here ∙ m) ∙ put-last t seen
        go false e = let d = not_level j s e in ap (λ z. put_terms (f z) (seen ++ t ∷ [])) (name_there j d) ∙ put-kept _ t seen (h.sound j (λ z. k (print_there j d ∙ z)))

pub put_free : (f : Name → List (ℕ × ℤ)) (old new : Table) (t : List (ℕ × ℤ)) (s p : ℕ) (name : Name) → IsFree f old t s p → f name ≡ t → new.places ≡ old.places → new.prints.items ≡ set old.prints.items s p → new.names.items ≡ set old.names.items s name → new.count ≡ old.count + 1 → Puts f old new t
put_free f old new t s p name r m e g k n = λ seen h.
    subst (λ z. AreAt f z new.prints.items new.names.items new.count (put_terms t seen)) (sym e)
    (subst (λ z. AreAt f old.places z new.names.items new.count (put_terms t seen)) (sym g)
    (subst (λ z. AreAt f old.places (set old.prints.items s p) z new.count (put_terms t seen)) (sym k)
    (subst (λ z. AreAt f old.places (set old.prints.items s p) (set old.names.items s name) z (put_terms t seen)) (sym n) (filled_table f old seen t s p name h r m))))

pub taken_at : (f : Name → List (ℕ × ℤ)) (table : Table) (prints : List ℕ) (names : List Name) (t : List (ℕ × ℤ)) (i : ℕ) (d : Name) (b : Bool) → prints ≡ table.prints.items → names ≡ table.names.items → i < length names → IsFull prints i → b ≡ same_terms (f (get_or names i d)) t → b ≡ true → IsTaken f table t
taken_at f table prints names t i d b e g l h k m = record { place = i; full = subst (λ ps. IsFull ps i) e h; terms = ap (λ ns. f (name_at ns i)) (sym g) ∙ ap f (sym (get_or_default names i d no_name l)) ∙ same_terms-is _ _ (sym k ∙ m) }

unlike : (a t : List (ℕ × ℤ)) (b : Bool) → b ≡ same_terms a t → b ≡ false → a ≡ t → ⊥
unlike a t b e f h = let g : same_terms t t ≡ false = ap (λ u. same_terms u t) (sym h) ∙ sym e ∙ f in let k = terms-same t in absurd (cc)

pub other_at : (f : Name → List (ℕ × ℤ)) (prints : List ℕ) (names : List Name) (t : List (ℕ × ℤ)) (i : ℕ) (d : Name) (b : Bool) → i < length names → IsFull prints i → b ≡ same_terms (f (get_or names i d)) t → b ≡ false → IsOther f prints names t i
other_at f prints names t i d b l h k m = (h, λ q e. unlike (f (get_or names i d)) t b k m (ap f (get_or_default names i d no_name l) ∙ e))

pub others_more : (f : Name → List (ℕ × ℤ)) (prints : List ℕ) (names : List Name) (t : List (ℕ × ℤ)) (start i : ℕ) → ((j : ℕ) → start ≤ j → j < i → IsOther f prints names t j) → IsOther f prints names t i → (j : ℕ) → start ≤ j → j < i + 1 → IsOther f prints names t j
others_more f prints names t start i h o j m n = go (eqb j i) refl
  where
    go : (b : Bool) → eqb j i ≡ b → IsOther f prints names t j
    go true e = subst (IsOther f prints names t) (sym (level j i e)) o
    go false e = let k = not_level j i e in h j m (omega (arith, n, k))

-- ---- Rows still to come

pub counts_put : (f : Name → List (ℕ × ℤ)) (old new : Table) (d : Derived) → has_terms d.row.terms ≡ true → Puts f old new d.row.terms → Counts f old new (d ∷ [])
unfolding terms_of puts
counts_put f old new d e g = λ more all h. record { seen = put_terms d.row.terms h.seen; is_table = g h.seen h.is_table; whole = ap (λ b. puts (cond b (d.row.terms ∷ terms_of more) (terms_of more)) h.seen) (sym e) ∙ h.whole }

counts_nothing : (f : Name → List (ℕ × ℤ)) (table : Table) (d : Derived) → has_terms d.row.terms ≡ false → Counts f table table (d ∷ [])
unfolding terms_of
counts_nothing f table d e = λ more all h. record { seen = h.seen; is_table = h.is_table; whole = ap (λ b. puts (cond b (d.row.terms ∷ terms_of more) (terms_of more)) h.seen) (sym e) ∙ h.whole }

has_none : (ts : List (ℕ × ℤ)) (b : Bool) → b ≡ not (has_terms ts) → b ≡ true → has_terms ts ≡ false
has_none [] b e h = refl
has_none (t ∷ ts) b e h = absurd (cc)

has_some : (ts : List (ℕ × ℤ)) (b : Bool) → b ≡ not (has_terms ts) → b ≡ false → has_terms ts ≡ true
has_some [] b e h = absurd (cc)
has_some (t ∷ ts) b e h = refl

pub counts_none : (f : Name → List (ℕ × ℤ)) (table : Table) (d made : Derived) (b : Bool) → made ≡ d → b ≡ not (has_terms made.row.terms) → b ≡ true → Counts f table table (d ∷ [])
counts_none f table d made b e h k = counts_nothing f table d (ap (λ (z : Derived). has_terms z.row.terms) (sym e) ∙ has_none made.row.terms b h k)

pub made_some : (d made : Derived) (b : Bool) → made ≡ d → b ≡ not (has_terms made.row.terms) → b ≡ false → has_terms d.row.terms ≡ true
made_some d made b e h k = ap (λ (z : Derived). has_terms z.row.terms) (sym e) ∙ has_some made.row.terms b h k

pub number_some : (ts : List (ℕ × ℤ)) (n : ℕ) → (n ≡ 0 → ⊥) → n ≡ fingerprint ts → has_terms ts ≡ true
unfolding hashed_all
number_some [] n h e = absurd (h e)
number_some (t ∷ ts) n h e = refl

pub found_same : (d : Derived) (o : Option Derived) → has_terms d.row.terms ≡ true → o ≡ found_after d o
found_same d (Some c) e = refl
found_same d None e = ap (λ b. cond (not b && (lt_z (pos 0) d.row.rest || (is_zero_num d.row.rest && d.row.strict))) (Some d) None) (sym e)

pub kept_more : (ks : List Derived) (i : ℕ) (k : Derived) (ts : List (ℕ × ℤ)) → i < length ks → k ≡ get_or ks i k → ts ≡ k.row.terms → put_terms ts (puts (all_terms (take i ks)) []) ≡ puts (all_terms (take (i + 1) ks)) []
unfolding puts
kept_more ks i k ts l g t = ap (λ us. put_terms us (puts (all_terms (take i ks)) [])) (t ∙ ap (λ (z : Derived). z.row.terms) (get_or_read ks i k l g no_row)) ∙ sym (puts-append (all_terms (take i ks)) ((nth ks i).row.terms ∷ []) []) ∙ ap (λ us. puts us []) (sym (map_more (λ (z : Derived). z.row.terms) ks i no_row l))

pub pairs_more : (f : Name → List (ℕ × ℤ)) (table : Table) (s : Step) (i : ℕ) (more : List Derived) (all : List (List (ℕ × ℤ))) → i < length s.lows → IsCounting f table (pairs s.var (drop i s.lows) s.ups ++ more) all → IsCounting f table (joins s.var (nth s.lows i) s.ups ++ (pairs s.var (drop (i + 1) s.lows) s.ups ++ more)) all
unfolding pairs
pairs_more f table s i more all l h = subst (λ ds. IsCounting f table ds all) (ap (λ vs. pairs s.var vs s.ups ++ more) (drop_more s.lows i no_row l) ∙ append_assoc (joins s.var (nth s.lows i) s.ups) (pairs s.var (drop (i + 1) s.lows) s.ups) more) h

pub pairs_end : (f : Name → List (ℕ × ℤ)) (table : Table) (s : Step) (i : ℕ) (more : List Derived) (all : List (List (ℕ × ℤ))) → length s.lows ≤ i → IsCounting f table (pairs s.var (drop i s.lows) s.ups ++ more) all → IsCounting f table more all
unfolding pairs
pairs_end f table s i more all l h = subst (λ vs. IsCounting f table (pairs s.var vs s.ups ++ more) all) (drop_all i s.lows l) h

pub joins_more : (f : Name → List (ℕ × ℤ)) (table : Table) (s : Step) (i j : ℕ) (more : List Derived) (all : List (List (ℕ × ℤ))) → j < length s.ups → IsCounting f table (joins s.var (nth s.lows i) (drop j s.ups) ++ more) all → IsCounting f table (join_at s i j ∷ (joins s.var (nth s.lows i) (drop (j + 1) s.ups) ++ more)) all
joins_more f table s i j more all l h = subst (λ vs. IsCounting f table (joins s.var (nth s.lows i) vs ++ more) all) (drop_more s.ups j no_row l) h

pub joins_end : (f : Name → List (ℕ × ℤ)) (table : Table) (s : Step) (i j : ℕ) (more : List Derived) (all : List (List (ℕ × ℤ))) → length s.ups ≤ j → IsCounting f table (joins s.var (nth s.lows i) (drop j s.ups) ++ more) all → IsCounting f table more all
joins_end f table s i j more all l h = subst (λ vs. IsCounting f table (joins s.var (nth s.lows i) vs ++ more) all) (drop_all j s.ups l) h

pub counted_all : (f : Name → List (ℕ × ℤ)) (old new : Table) (ds ks : List Derived) → AreDifferent ks → IsTable f old (puts (all_terms ks) []) → Counts f old new ds → new.count ≡ length (rows_all ds ks)
unfolding terms_of puts
counted_all f old new ds ks e t k = let h = k [] (puts (terms_of ds) (puts (all_terms ks) [])) (record { seen = puts (all_terms ks) []; is_table = t; whole = ap (λ vs. puts (terms_of vs) (puts (all_terms ks) [])) (append-nil ds) }) in h.is_table.counted ∙ ap length (h.whole ∙ ap (puts (terms_of ds)) e ∙ sym (rows_terms ds ks)) ∙ mapped (rows_all ds ks)
  where
    mapped : (rs : List Derived) → length (all_terms rs) ≡ length rs
    mapped [] = refl
    mapped (r ∷ rs) = ap suc (mapped rs)

-- ---- The fingerprints of a row's combinations

pub one_longer : (old now : List ℕ) (j n : ℕ) → now ≡ old ++ n ∷ [] → length old ≡ j → length now ≡ j + 1
one_longer old now j n e l = ap length e ∙ simp length-append (omega (arith, l))

pub numbers_more : (s : Step) (i : ℕ) (old now : List ℕ) (j n : ℕ) → now ≡ old ++ n ∷ [] → length old ≡ j → IsNumberOf n s i j → ((k : ℕ) → k < j → IsNumberOf (get_or old k 0) s i k) → (k : ℕ) → k < j + 1 → IsNumberOf (get_or now k 0) s i k
numbers_more s i old now j n e l h g k m = subst (λ xs. IsNumberOf (get_or xs k 0) s i k) (sym e) (go (ltb k j) refl)
  where
    go : (b : Bool) → ltb k j ≡ b → IsNumberOf (get_or (old ++ n ∷ []) k 0) s i k
    go true t = let p = below k j t in subst (λ z. IsNumberOf z s i k) (sym (get_or_append_left old (n ∷ []) 0 k (omega (arith, p, l)))) (g k p)
    go false t = let p : k ≡ j = omega (arith, not_below k j t, m) in subst (λ x. IsNumberOf (get_or (old ++ n ∷ []) x 0) s i x) (sym p) (subst (λ z. IsNumberOf z s i j) (sym (get_or_at old n [] 0 j l)) h)
