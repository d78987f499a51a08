-- The data along a path, when an answer is added and when the last one is removed.
use Rattle.std.proofs.Common.{◌≡◌, ℕ, ◌-◌, ◌≤◌, List, [], ◌∷◌, ◌++◌, length, take, drop, refl, sym, ap, ◌∙◌, subst, arith, length-append, append_assoc, true, false}
use Rattle.std.specs.Prelude.{Option, Some, None, slice_get}
use Rattle.std.proofs.lemmas.List.{append-nil, map-append, take-append-drop, take-take, length-take, length-map}
use Rattle.std.proofs.Math.Seq.{take-append_seam}
use Rattle.heylo_formula.specs.Goals.{Goal}
use Rattle.heylo_formula.specs.Typing.{Types, types_in}
use Rattle.linear_form.specs.Query.{Taken}
use Rattle.linear_form.specs.Paths.{end_at}
use Rattle.linear_form.specs.PathRows.{path_claims, answer_claims, sign_claims, rows_of, listed, denial_at}
use Rattle.linear_values.specs.Tightening.{all_tightened, with_row, Claim, tightened}
use Rattle.linear_form.specs.PlainPaths.{path_of, taken_of, atom_of}
use Rattle.linear_rows.specs.Row.{Row}
use Rattle.linear_form.specs.declared.paths.Taken as T
use Rattle.linear_form.proofs.exported.Places.{place_stays, rows_counted, path_rows_first, claims_counted}
use Rattle.linear_guess.proofs.exported.SearchMemory.{remembers_more}
use Rattle.linear_form.specs.RowLists.{ArePathRows, LackLastRow}
use Rattle.linear_form.specs.Places.{IsOn}
use Rattle.linear_rows.specs.Occurrences.{AreOccurrences}
use Rattle.linear_guess.specs.Searches.{Remembers}
use Rattle.linear_form.specs.declared.places.Place.{Place}
use Rattle.linear_guess.specs.declared.search.Search.{Search}
use Rattle.region_split.specs.declared.trail.Way.{Way}
use Rattle.region_split.specs.declared.trail.Way.TheVariants.{Open}
use Rattle.region_split.specs.declared.trail.Trail.{Trail}
use Rattle.region_split.specs.internal.Trails.{IsWay, ArePlaces, AreRowsSoFar, Comes, Rises, Stands, StandsAt, ComesBy, StoodBefore}
use Rattle.region_split.specs.internal.KnownComparisons.{AreKnown}
use Rattle.region_split.proofs.WalkMoves.{snoc_first, snoc_last, snoc_not_empty}

-- ---- The data of the answers

-- The last evaluation is on the path; if it asked the last comparison, it is on the path before.
pub record HasLast (g : Goal) (ps : List Taken) (places : List Way) : Type 0 where
  pub before : List Way
  pub last : Way
  pub split : places ≡ before ++ (last ∷ [])
  pub on : (p : Place) → last ≡ Open p → IsOn g ps p
  pub asked : (qs : List Taken) (t : Taken) (p : Place) → ps ≡ qs ++ (t ∷ []) → last ≡ Open p → IsOn g qs p

pub has_last : (g : Goal) (ps : List Taken) (places : List Way) → ArePlaces g ps places → HasLast g ps places
has_last g _ _ (ArePlaces.start p h) = record {
  before = [];
  last = Open p;
  split = refl;
  on = λ q e. let k : p ≡ q = cc in subst (IsOn g []) k h;
  asked = λ qs t q e f. absurd (snoc_not_empty qs t e);
}
has_last g _ _ (ArePlaces.answer ps u places w a h) = record {
  before = places;
  last = w;
  split = refl;
  on = λ p e. place_stays g ps (u ∷ []) p (subst (IsWay g ps u) e h);
  asked = λ qs t p e f. subst (λ xs. IsOn g xs p) (snoc_first ps qs u t e) (subst (IsWay g ps u) f h);
}

slice_last : (before : List Way) (w : Way) → slice_get (before ++ (w ∷ [])) (length before) ≡ Some w
slice_last [] w = refl
slice_last (x ∷ xs) w = slice_last xs w

last_read : (g : Goal) (ps : List Taken) (places : List Way) (w : Way) (l : HasLast g ps places) → Some w ≡ slice_get places (length places - 1) → l.last ≡ w
last_read g ps places w l e =
    let i = ap length l.split ∙ length-append l.before (l.last ∷ []) in
    let n : length places - 1 ≡ length l.before = omega (arith, i) in
    let f : Some w ≡ Some l.last = e ∙ ap (λ j. slice_get places j) n ∙ ap (λ qs. slice_get qs (length l.before)) l.split ∙ slice_last l.before l.last in
    cc

pub last_on : (g : Goal) (ps : List Taken) (places : List Way) (w : Way) (p : Place) → ArePlaces g ps places → Some w ≡ slice_get places (length places - 1) → w ≡ Open p → IsOn g ps p
last_on g ps places w p a e f = let l = has_last g ps places a in l.on p (last_read g ps places w l e ∙ f)

pub last_asked : (g : Goal) (ps : List Taken) (t : Taken) (places : List Way) (w : Way) (p : Place) → ArePlaces g (ps ++ (t ∷ [])) places → Some w ≡ slice_get places (length places - 1) → w ≡ Open p → IsOn g ps p
last_asked g ps t places w p a e f = let l = has_last g (ps ++ (t ∷ [])) places a in l.asked ps t p refl (last_read g (ps ++ (t ∷ [])) places w l e ∙ f)

-- The data without the last answer.
pub record Shorter (g : Goal) (ps : List Taken) (t : Taken) (places : List Way) (w : Way) : Type 0 where
  pub are_places : ArePlaces g ps places
  pub on : IsWay g ps t w

pub shorter_places : (g : Goal) (qs ps : List Taken) (t : Taken) (all places : List Way) (w : Way) → ArePlaces g qs all → qs ≡ ps ++ (t ∷ []) → all ≡ places ++ (w ∷ []) → Shorter g ps t places w
shorter_places g _ ps t _ places w (ArePlaces.start q h) e f = absurd (snoc_not_empty ps t e)
shorter_places g _ ps t _ places w (ArePlaces.answer rs u others q a h) e f =
    let i : rs ≡ ps = snoc_first rs ps u t e in
    let m : u ≡ t = snoc_last rs ps u t e in
    let j : others ≡ places = snoc_first others places q w f in
    let k : q ≡ w = snoc_last others places q w f in
    record {
      are_places = subst (λ xs. ArePlaces g ps xs) j (subst (λ xs. ArePlaces g xs others) i a);
      on = subst (λ x. IsWay g ps t x) k (subst (λ x. IsWay g ps x q) m (subst (λ xs. IsWay g xs u q) i h));
    }

pub path_split : (path before : List T.Taken) (t : T.Taken) → path ≡ before ++ (t ∷ []) → path_of path ≡ path_of before ++ (taken_of t ∷ [])
path_split path before t e = ap path_of e ∙ map-append taken_of before (t ∷ [])

pub path_counted : (before : List T.Taken) (n : ℕ) → n ≡ length before → length (path_of before) ≡ n
path_counted before n e = length-map before taken_of ∙ sym e

-- ---- Rows

pub same_path_rows : (g : Goal) (ps : List Taken) (rows others : List Row) → ArePathRows g ps rows → ArePathRows g ps others → rows ≡ others
same_path_rows g ps rows others h k = let e = sym h.are_rows ∙ k.are_rows in cc

shorter_rows : (g : Goal) (ps qs : List Taken) (rows more : List Row) → ArePathRows g ps rows → ArePathRows g (ps ++ qs) more → take (length rows) more ≡ rows
shorter_rows g ps qs rows more h k =
    let e = same_path_rows g ps rows (take (length (path_claims ps)) more) h (path_rows_first g ps qs more k) in
    ap (λ n. take n more) (rows_counted g ps rows h) ∙ sym e

pub first_path_rows : (g : Goal) (ps qs : List Taken) (rows more : List Row) → ArePathRows g ps rows → ArePathRows g (ps ++ qs) more → more ≡ rows ++ drop (length rows) more
first_path_rows g ps qs rows more h k = sym (take-append-drop (length rows) more) ∙ ap (λ xs. xs ++ drop (length rows) more) (shorter_rows g ps qs rows more h k)

pub rows_so_far : (g : Goal) (ps : List Taken) (rows more : List Row) (noted : ℕ) → AreRowsSoFar g ps rows → ArePathRows g ps more → noted ≡ length rows → take noted more ≡ rows
rows_so_far g _ _ more noted AreRowsSoFar.start k e = ap (λ n. take n more) e
rows_so_far g ps rows more noted (AreRowsSoFar.answer _ _ l) k e = ap (λ n. take n more) e ∙ shorter_rows g l.before (l.last ∷ []) rows more l.are_rows (subst (λ xs. ArePathRows g xs more) l.split k)

pub rows_without_answers : (g : Goal) (ps : List Taken) (rows : List Row) → AreRowsSoFar g ps rows → length ps ≡ 0 → ArePathRows g ps rows
rows_without_answers g _ _ AreRowsSoFar.start e = record { are_rows = refl }
rows_without_answers g ps rows (AreRowsSoFar.answer _ _ l) e = let i = ap length l.split ∙ length-append l.before (l.last ∷ []) in absurd (omega (arith, e, i))

pub rows_before_last : (g : Goal) (ps before : List Taken) (t : Taken) (rows : List Row) → AreRowsSoFar g ps rows → ps ≡ before ++ (t ∷ []) → LackLastRow g ps rows
rows_before_last g _ before t _ AreRowsSoFar.start e = absurd (snoc_not_empty before t e)
rows_before_last g _ before t _ (AreRowsSoFar.answer _ _ l) e = l

remembers_longer : (g : Goal) (ps qs : List Taken) (s : Search) (rows more : List Row) → ArePathRows g ps rows → ArePathRows g (ps ++ qs) more → Remembers s rows → Remembers s more
remembers_longer g ps qs s rows more h k r = subst (Remembers s) (sym (first_path_rows g ps qs rows more h k)) (remembers_more s rows (drop (length rows) more) r)

pub remembers_last : (g : Goal) (ps : List Taken) (s : Search) (rows more : List Row) → AreRowsSoFar g ps rows → ArePathRows g ps more → Remembers s rows → Remembers s more
remembers_last g _ s _ more AreRowsSoFar.start k r = remembers_longer g [] [] s [] more (record { are_rows = refl }) k r
remembers_last g ps s rows more (AreRowsSoFar.answer _ _ l) k r = remembers_longer g l.before (l.last ∷ []) s rows more l.are_rows (subst (λ xs. ArePathRows g xs more) l.split k) r

-- ---- Rows that overflow

unstated_first : (types : Types) (ks js : List Claim) → all_tightened types ks ≡ None → all_tightened types (ks ++ js) ≡ None
unstated_first types [] js e = absurd (cc)
unstated_first types (k ∷ ks) js e = go (tightened types k) (all_tightened types ks) e (unstated_first types ks js)
  where
    go : (r : Option Row) (rows : Option (List Row)) → with_row r rows ≡ None → (rows ≡ None → all_tightened types (ks ++ js) ≡ None) → with_row r (all_tightened types (ks ++ js)) ≡ None
    go None rows f i = refl
    go (Some r) None f i = ap (with_row (Some r)) (i refl)
    go (Some r) (Some rows) f i = absurd (cc)

pub unstated_path : (g : Goal) (ps : List Taken) → all_tightened (types_in g.types) (path_claims ps) ≡ None → rows_of g ps false ≡ None
unstated_path g ps e = unstated_first (types_in g.types) (path_claims ps ++ []) _ (unstated_first (types_in g.types) (path_claims ps) [] e)

pub unstated_denied : (g : Goal) (ps : List Taken) → all_tightened (types_in g.types) (path_claims ps) ≡ None → rows_of g ps true ≡ None
unstated_denied g ps e = unstated_first (types_in g.types) (path_claims ps ++ listed (denial_at g.upper (end_at g ps))) _ (unstated_first (types_in g.types) (path_claims ps) _ e)

-- ---- Rows that are computed again

tightened_first : (types : Types) (ks js : List Claim) (rows list : List Row) → all_tightened types ks ≡ Some rows → all_tightened types (ks ++ js) ≡ Some list → take (length rows) list ≡ rows
tightened_first types [] js rows list e f = let k : [] ≡ rows = cc in ap (λ xs. take (length xs) list) (sym k) ∙ k
tightened_first types (k ∷ ks) js rows list e f = go (tightened types k) (all_tightened types ks) (all_tightened types (ks ++ js)) e f (tightened_first types ks js)
  where
    go : (r : Option Row) (some more : Option (List Row)) → with_row r some ≡ Some rows → with_row r more ≡ Some list → ((xs ys : List Row) → some ≡ Some xs → more ≡ Some ys → take (length xs) ys ≡ xs) → take (length rows) list ≡ rows
    go None some more a b i = absurd (cc)
    go (Some r) None more a b i = absurd (cc)
    go (Some r) (Some xs) None a b i = absurd (cc)
    go (Some r) (Some xs) (Some ys) a b i =
        let m : r ∷ xs ≡ rows = cc in
        let n : r ∷ ys ≡ list = cc in
        let j : take (length (r ∷ xs)) (r ∷ ys) ≡ r ∷ xs = ap (λ zs. r ∷ zs) (i xs ys refl refl) in
        ap (λ zs. take (length zs) list) (sym m) ∙ ap (take (length (r ∷ xs))) (sym n) ∙ j ∙ m

pub rows_first : (g : Goal) (ps : List Taken) (rows list : List Row) → ArePathRows g ps rows → rows_of g ps false ≡ Some list → take (length rows) list ≡ rows
rows_first g ps rows list h e = go
  where
    types : Types
    types = types_in g.types

    more : List Claim
    more = sign_claims types (path_claims ps ++ []) (length g.types)

    joined : (path_claims ps ++ []) ++ more ≡ path_claims ps ++ more
    joined = ap (λ ks. ks ++ more) (append-nil (path_claims ps))

    go : take (length rows) list ≡ rows
    go = tightened_first types (path_claims ps) more rows list h.are_rows (ap (all_tightened types) (sym joined) ∙ e)

-- ---- Trails

pub rises : (g : Goal) (t : Trail) → Stands g t → Rises g t
rises g t h =
    let e = sym (append-nil t.rows.items) in
    record { places = h.places; rows = h.rows; more = []; occurrences = subst (λ rows. AreOccurrences (length g.types) rows t.occurrences) e h.occurrences; remembers = subst (Remembers t.search.value) e h.remembers; known = h.known }

pub stood_before : (g : Goal) (t before : Trail) (answer : T.Taken) (way : Way) (left count : ℕ) → Rises g t → t.path.items ≡ before.path.items ++ (answer ∷ []) → t.places.items ≡ before.places.items ++ (way ∷ []) → length (answer_claims (atom_of answer.atom) answer.held) ≡ count → left ≡ length t.rows.items - count → before.rows.items ≡ take left t.rows.items → before.occurrences ≡ t.occurrences → before.search ≡ t.search → AreKnown g.types before.atoms → StoodBefore g t before answer way
stood_before g t before answer way left count h p q n l r o m kn =
    let ps = path_of before.path.items in
    let e : path_of t.path.items ≡ ps ++ (taken_of answer ∷ []) = ap path_of p ∙ map-append taken_of before.path.items (answer ∷ []) in
    let s = shorter_places g (path_of t.path.items) ps (taken_of answer) t.places.items before.places.items way h.places e q in
    let k = subst (λ qs. ArePathRows g qs t.rows.items) e h.rows in
    let a = rows_counted g (ps ++ (taken_of answer ∷ [])) t.rows.items k in
    let b = claims_counted ps (atom_of answer.atom) answer.held in
    let c : length (path_claims ps) ≡ left = omega (arith, a, b, n, l) in
    let d = subst (λ j. ArePathRows g ps (take j t.rows.items)) c (path_rows_first g ps (taken_of answer ∷ []) t.rows.items k) in
    let more = drop left t.rows.items ++ h.more in
    let w : t.rows.items ++ h.more ≡ before.rows.items ++ more = ap (λ xs. xs ++ h.more) (sym (take-append-drop left t.rows.items)) ∙ append_assoc (take left t.rows.items) (drop left t.rows.items) h.more ∙ ap (λ xs. xs ++ more) (sym r) in
    record {
      rises = record { places = s.are_places; rows = subst (ArePathRows g ps) (sym r) d; more = more; occurrences = subst (λ x. AreOccurrences (length g.types) (before.rows.items ++ more) x) (sym o) (subst (λ rows. AreOccurrences (length g.types) rows t.occurrences) w h.occurrences); remembers = subst (λ x. Remembers x.value (before.rows.items ++ more)) (sym m) (subst (Remembers t.search.value) w h.remembers); known = kn };
      asked = s.on;
      path = e;
    }

pub no_places : (g : Goal) (t : Trail) → Rises g t → length t.places.items ≡ 0 → ⊥
no_places g t h e = let l = has_last g (path_of t.path.items) t.places.items h.places in let i = ap length l.split ∙ length-append l.before (l.last ∷ []) in absurd (omega (arith, e, i))

pub comes_by : (g : Goal) (t next : Trail) (answer : T.Taken) (way : Way) → Rises g t → IsWay g (path_of t.path.items) (taken_of answer) way → next.path.items ≡ t.path.items ++ (answer ∷ []) → next.places.items ≡ t.places.items ++ (way ∷ []) → next.rows ≡ t.rows → AreOccurrences (length g.types) t.rows.items next.occurrences → Remembers next.search.value t.rows.items → AreKnown g.types next.atoms → ComesBy g t answer next
comes_by g t next answer way h o p q r n s kn =
    let ps = path_of t.path.items in
    let e : path_of next.path.items ≡ ps ++ (taken_of answer ∷ []) = ap path_of p ∙ map-append taken_of t.path.items (answer ∷ []) in
    record {
      path = e;
      comes = record {
        places = subst (λ qs. ArePlaces g qs next.places.items) (sym e) (subst (ArePlaces g (ps ++ (taken_of answer ∷ []))) (sym q) (ArePlaces.answer ps (taken_of answer) t.places.items way h.places o));
        rows = AreRowsSoFar.answer (path_of next.path.items) next.rows.items (record { before = ps; last = taken_of answer; split = e; are_rows = subst (λ v. ArePathRows g ps v.items) (sym r) h.rows });
        occurrences = subst (λ v. AreOccurrences (length g.types) v.items next.occurrences) (sym r) n;
        remembers = subst (λ v. Remembers next.search.value v.items) (sym r) s;
        known = kn;
      };
    }

pub stands_further : (g : Goal) (ps : List Taken) (t next : Trail) (answer : T.Taken) (way : Way) (row : Row) → Stands g t → ps ≡ path_of t.path.items ++ (taken_of answer ∷ []) → IsWay g (path_of t.path.items) (taken_of answer) way → ArePathRows g ps (t.rows.items ++ (row ∷ [])) → next.path.items ≡ t.path.items ++ (answer ∷ []) → next.places.items ≡ t.places.items ++ (way ∷ []) → next.rows.items ≡ t.rows.items ++ (row ∷ []) → AreOccurrences (length g.types) next.rows.items next.occurrences → next.search ≡ t.search → AreKnown g.types next.atoms → StandsAt g ps next
stands_further g ps t next answer way row h e o k p q r n s kn =
    let qs = path_of t.path.items in
    let f : path_of next.path.items ≡ ps = ap path_of p ∙ map-append taken_of t.path.items (answer ∷ []) ∙ sym e in
    let a = subst (λ xs. ArePlaces g xs (t.places.items ++ (way ∷ []))) (sym e) (ArePlaces.answer qs (taken_of answer) t.places.items way h.places o) in
    record {
      path = f;
      stands = record {
        places = subst (λ xs. ArePlaces g xs next.places.items) (sym f) (subst (ArePlaces g ps) (sym q) a);
        rows = subst (λ xs. ArePathRows g xs next.rows.items) (sym f) (subst (ArePathRows g ps) (sym r) k);
        occurrences = n;
        remembers = subst (Remembers next.search.value) (sym r) (remembers_more next.search.value t.rows.items (row ∷ []) (subst (λ x. Remembers x.value t.rows.items) (sym s) h.remembers));
        known = kn;
      };
    }

pub stands_still : (g : Goal) (t next : Trail) → Stands g t → next.path.items ≡ t.path.items → next.places ≡ t.places → next.rows.items ≡ t.rows.items → next.occurrences ≡ t.occurrences → next.search ≡ t.search → AreKnown g.types next.atoms → StandsAt g (path_of t.path.items) next
stands_still g t next h p q r o s kn = record {
  path = ap path_of p;
  stands = record {
    places = subst (λ xs. ArePlaces g (path_of xs) next.places.items) (sym p) (subst (λ v. ArePlaces g (path_of t.path.items) v.items) (sym q) h.places);
    rows = subst (λ xs. ArePathRows g (path_of xs) next.rows.items) (sym p) (subst (ArePathRows g (path_of t.path.items)) (sym r) h.rows);
    occurrences = subst (λ x. AreOccurrences (length g.types) next.rows.items x) (sym o) (subst (λ rows. AreOccurrences (length g.types) rows t.occurrences) (sym r) h.occurrences);
    remembers = subst (λ x. Remembers x.value next.rows.items) (sym s) (subst (Remembers t.search.value) (sym r) h.remembers);
    known = kn;
  };
}

pub comes_first : (g : Goal) (t : Trail) (p : Place) → IsOn g [] p → t.path.items ≡ [] → t.places.items ≡ Open p ∷ [] → t.rows.items ≡ [] → AreOccurrences (length g.types) [] t.occurrences → ((rows : List Row) → Remembers t.search.value rows) → AreKnown g.types t.atoms → Comes g t
comes_first g t p o e q r n m kn =
    let a = ap path_of e in
    record {
      places = subst (λ ps. ArePlaces g ps t.places.items) (sym a) (subst (ArePlaces g []) (sym q) (ArePlaces.start p o));
      rows = subst (λ ps. AreRowsSoFar g ps t.rows.items) (sym a) (subst (AreRowsSoFar g []) (sym r) AreRowsSoFar.start);
      occurrences = subst (λ rows. AreOccurrences (length g.types) rows t.occurrences) (sym r) n;
      remembers = m t.rows.items;
      known = kn;
    }

pub stands_with : (g : Goal) (t next : Trail) → Comes g t → ArePathRows g (path_of t.path.items) next.rows.items → next.path ≡ t.path → next.places ≡ t.places → AreOccurrences (length g.types) next.rows.items next.occurrences → next.search ≡ t.search → AreKnown g.types next.atoms → Stands g next
stands_with g t next h k p q o s kn = record {
  places = subst (λ v. ArePlaces g (path_of v.items) next.places.items) (sym p) (subst (λ v. ArePlaces g (path_of t.path.items) v.items) (sym q) h.places);
  rows = subst (λ v. ArePathRows g (path_of v.items) next.rows.items) (sym p) k;
  occurrences = o;
  remembers = subst (λ x. Remembers x.value next.rows.items) (sym s) (remembers_last g (path_of t.path.items) t.search.value t.rows.items next.rows.items h.rows k h.remembers);
  known = kn;
}

pub stands_again : (g : Goal) (t next : Trail) (list : List Row) → Stands g t → take (length t.rows.items) list ≡ t.rows.items → next.path ≡ t.path → next.places ≡ t.places → next.rows.items ≡ take (length t.rows.items) list → next.occurrences ≡ t.occurrences → Remembers next.search.value (take (length t.rows.items) list) → AreKnown g.types next.atoms → StandsAt g (path_of t.path.items) next
stands_again g t next list h f p q r o m kn = record {
  path = ap (λ v. path_of v.items) p;
  stands = record {
    places = subst (λ v. ArePlaces g (path_of v.items) next.places.items) (sym p) (subst (λ v. ArePlaces g (path_of t.path.items) v.items) (sym q) h.places);
    rows = subst (λ v. ArePathRows g (path_of v.items) next.rows.items) (sym p) (subst (ArePathRows g (path_of t.path.items)) (sym (r ∙ f)) h.rows);
    occurrences = subst (λ x. AreOccurrences (length g.types) next.rows.items x) (sym o) (subst (λ rows. AreOccurrences (length g.types) rows t.occurrences) (sym (r ∙ f)) h.occurrences);
    remembers = subst (Remembers next.search.value) (sym r) m;
    known = kn;
  };
}

pub looked : (g : Goal) (t next : Trail) (list held : List Row) (kept : ℕ) → Stands g t → kept ≡ length t.rows.items → take (length t.rows.items) list ≡ t.rows.items → held ≡ list → next.path ≡ t.path → next.places ≡ t.places → next.rows.items ≡ take kept list → next.occurrences ≡ t.occurrences → Remembers next.search.value (take kept held) → AreKnown g.types next.atoms → StandsAt g (path_of t.path.items) next
looked g t next list held kept h e f d p q r o m kn = stands_again g t next list h f p q (r ∙ ap (λ k. take k list) e) o (subst (λ k. Remembers next.search.value (take k list)) e (subst (λ xs. Remembers next.search.value (take kept xs)) d m)) kn

pub again : (g : Goal) (t next : Trail) (list : List Row) (kept : ℕ) → Stands g t → kept ≡ length t.rows.items → take (length t.rows.items) list ≡ t.rows.items → next.path ≡ t.path → next.places ≡ t.places → next.rows.items ≡ take kept list → next.occurrences ≡ t.occurrences → next.search ≡ t.search → AreKnown g.types next.atoms → StandsAt g (path_of t.path.items) next
again g t next list kept h e f p q r o s kn = looked g t next list list kept h e f refl p q r o (subst (λ x. Remembers x.value (take kept list)) (sym s) (subst (Remembers t.search.value) (sym (ap (λ k. take k list) e ∙ f)) h.remembers)) kn

pub two_parts : (list a b : List Row) (kept : ℕ) → a ≡ take kept list → b ≡ drop kept list → list ≡ a ++ b
two_parts list a b kept e f = sym (take-append-drop kept list) ∙ ap (λ xs. xs ++ drop kept list) (sym e) ∙ ap (λ ys. a ++ ys) (sym f)

pub starts_length : (rows list : List Row) (kept : ℕ) → take (length rows) list ≡ rows → kept ≡ length rows → kept ≤ length list
starts_length rows list kept f e = let k = ap length f in let l = length-take (length rows) list in omega (arith, k, l, e)

-- What the search records of the rows of a path, it records of these rows and more.
pub remembers_list : (s : Search) (rows list : List Row) → Remembers s rows → take (length rows) list ≡ rows → Remembers s list
remembers_list s rows list r f = subst (Remembers s) (sym (sym (take-append-drop (length rows) list) ∙ ap (λ xs. xs ++ drop (length rows) list) f)) (remembers_more s rows (drop (length rows) list) r)

pub noted_first : (rows : List Row) (row : Row) (more : List Row) (count : ℕ) → more ≡ rows ++ (row ∷ []) → count ≡ length rows → take count more ≡ rows
noted_first rows row more count e n = ap (λ xs. take count xs) e ∙ ap (λ k. take k (rows ++ (row ∷ []))) n ∙ take-append_seam rows (row ∷ [])

pub taken_twice : (rows : List Row) (left : ℕ) → take left rows ≡ take left (take left rows)
taken_twice rows left = sym (take-take left left rows (omega arith))
