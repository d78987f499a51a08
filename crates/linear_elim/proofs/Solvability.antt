-- The elimination decides whether rows are solvable.
use Rattle.std.proofs.Common.{◌≡◌, ℕ, ◌<◌, List, [], ◌∷◌, length, refl, sym, ap, ◌∙◌, arith, Bool, true, false, cond, eqb, ltb, ◌||◌}
use Rattle.std.specs.Prelude.{ℤ, pos, ◌+ℤ◌, ◌*ℤ◌, Option, Some, None}
use borrow.Author.Differences.{ints}
use Prim.Native.Nat.{zero, suc}
use Rattle.std.specs.List.{All}
use Rattle.std.proofs.lemmas.List.Elements.{All-nil, All-cons, All-head, All-tail, All-append, All-filter, filter_passes}
use Rattle.heyvl_num.proofs.exported.Integers.{ring}
use Rattle.linear_rows.specs.Terms.{sum_at, is_in, IsNormal, IsOver}
use Rattle.linear_rows.specs.Row.{Row}
use Rattle.linear_rows.specs.Points.{Point, Meets, IsMetSomewhere, AgreesBut}
use Rattle.linear_rows.specs.Combination.{row_at}
use Rattle.linear_rows.proofs.exported.Sums.{sum_at-cons, sum_at-nil}
use Rattle.linear_rows.proofs.exported.Between.{All-both}
use Rattle.linear_elim.specs.Joins.{Derived, is_above_zero, join}
use Rattle.linear_elim.specs.internal.DerivedRows.{any_at, Follows}
use Rattle.linear_elim.specs.Steps.{lowers, uppers, kept, pairs, eliminate_one, has_terms, is_contradiction, contradiction, step_fits}
use Rattle.linear_elim.specs.Elimination.{Step, step_of, Rule, tidied_by, gathered, Outcome, after_step, ended_by, unless_many, run, start, elimination_by}
use Rattle.linear_elim.specs.Elimination.Outcome.{refuted, standing, too_many, too_great}
use Rattle.linear_elim.proofs.Solutions.{MeetsIn, IsLower, IsUpper, neg_abs, pos_abs, pairs-all, Extension, step-complete}
use Rattle.linear_elim.proofs.Shares.{join-follows}
use Rattle.linear_elim.proofs.Shapes.{cancel, Good, step-good}
use Rattle.linear_elim.proofs.TidyRows.{contradiction-some}
use Rattle.linear_elim.proofs.RuledRows.{ruled-all, ruled-out, ruled-terms}

pub step-follows : (first : List Row) (x : ℕ) (rows : List Derived) → All (Follows first) rows → All (Follows first) (eliminate_one x rows)
step-follows first x rows h = All-append (Follows first) (kept x rows) (pairs x (lowers x rows) (uppers x rows)) (All-filter _ (Follows first) rows h)
    (pairs-all (Follows first) x (lowers x rows) (uppers x rows)
    (All-both (IsLower x) (Follows first) (λ l. All (λ u. Follows first (join x l u)) (uppers x rows))
    (λ l p m. All-both (IsUpper x) (Follows first) (λ u. Follows first (join x l u)) (λ u q n. join-follows first x l u (neg_abs _ p).0 (pos_abs _ q).0 m n) (uppers x rows) (filter_passes _ rows) (All-filter _ (Follows first) rows h))
    (lowers x rows) (filter_passes _ rows) (All-filter _ (Follows first) rows h)))

after-refuted : (s : Step) (o : Outcome) (c : Derived) → after_step s o ≡ refuted c → o ≡ refuted c
after-refuted s (refuted d) c e = e
after-refuted s (standing ss) c e = absurd (cc)
after-refuted s (too_many n m) c e = absurd (cc)
after-refuted s too_great c e = absurd (cc)

pub refuted-all : (rule : Rule) (P : Derived → Type 0) → ((x : ℕ) (rows : List Derived) → true ≡ step_fits x rows → All P rows → All P (eliminate_one x rows)) → (n : ℕ) (xs : List ℕ) (rows : List Derived) (c : Derived) → run rule n xs (gathered rule rows) ≡ refuted c → All P rows → P c × (is_contradiction c.row ≡ true)
unfolding run
refuted-all rule P next n [] rows c e h = go (contradiction rows) refl e
  where
    many : (b : Bool) → cond b (too_many n (length (tidied_by rule rows))) (standing []) ≡ refuted c → P c × (is_contradiction c.row ≡ true)
    many true e = absurd (cc)
    many false e = absurd (cc)

    go : (o : Option Derived) → contradiction rows ≡ o → ended_by o (unless_many n (tidied_by rule rows) (standing [])) ≡ refuted c → P c × (is_contradiction c.row ≡ true)
    go None k e = many (ltb 4096 (length (tidied_by rule rows))) e
    go (Some d) k e = let s : d ≡ c = cc in contradiction-some P rows c (k ∙ ap (λ x. Some x) s) h
refuted-all rule P next n (x ∷ xs) rows c e h = go (λ f k. refuted-all rule P next (suc n) xs (eliminate_one x (tidied_by rule rows)) c k (next x (tidied_by rule rows) f (ruled-all rule P rows h))) (contradiction rows) refl e
  where
    many : (true ≡ step_fits x (tidied_by rule rows) → run rule (suc n) xs (gathered rule (eliminate_one x (tidied_by rule rows))) ≡ refuted c → P c × (is_contradiction c.row ≡ true)) → (b f : Bool) → f ≡ step_fits x (tidied_by rule rows) → cond b (too_many n (length (tidied_by rule rows))) (cond f (after_step (step_of x (tidied_by rule rows)) (run rule (suc n) xs (gathered rule (eliminate_one x (tidied_by rule rows))))) too_great) ≡ refuted c → P c × (is_contradiction c.row ≡ true)
    many ih true f k e = absurd (cc)
    many ih false true k e = ih k (after-refuted _ _ c e)
    many ih false false k e = absurd (cc)

    go : (true ≡ step_fits x (tidied_by rule rows) → run rule (suc n) xs (gathered rule (eliminate_one x (tidied_by rule rows))) ≡ refuted c → P c × (is_contradiction c.row ≡ true)) → (o : Option Derived) → contradiction rows ≡ o → ended_by o (unless_many n (tidied_by rule rows) (cond (step_fits x (tidied_by rule rows)) (after_step (step_of x (tidied_by rule rows)) (run rule (suc n) xs (gathered rule (eliminate_one x (tidied_by rule rows))))) too_great)) ≡ refuted c → P c × (is_contradiction c.row ≡ true)
    go ih None k e = many ih (ltb 4096 (length (tidied_by rule rows))) (step_fits x (tidied_by rule rows)) refl e
    go ih (Some d) k e = let s : d ≡ c = cc in contradiction-some P rows c (k ∙ ap (λ x. Some x) s) h

cross : (a b c : ℕ) (t u v : ℤ) → 0 < b → t *ℤ pos b ≡ u *ℤ pos a → u *ℤ pos c ≡ v *ℤ pos b → t *ℤ pos c ≡ v *ℤ pos a
cross a b c t u v p e h = cancel b _ _ p (turn (pos b) t (pos c) ∙ ap (λ z. z *ℤ pos c) e ∙ swap u (pos a) (pos c) ∙ ap (λ z. z *ℤ pos a) h ∙ back v (pos b) (pos a))
  where
    turn : (x y z : ℤ) → x *ℤ (y *ℤ z) ≡ (y *ℤ x) *ℤ z
    turn x y z = simp ring

    swap : (x y z : ℤ) → (x *ℤ y) *ℤ z ≡ (x *ℤ z) *ℤ y
    swap x y z = simp ring

    back : (x y z : ℤ) → (x *ℤ y) *ℤ z ≡ y *ℤ (x *ℤ z)
    back x y z = simp ring

pub agrees-trans : (x : ℕ) (xs : List ℕ) (w y z : Point) → AgreesBut xs w y → AgreesBut (x ∷ []) y z → AgreesBut (x ∷ xs) w z
agrees-trans x xs w y z h k = record { same = λ v e. cross w.below y.below z.below (w.top v) (y.top v) (z.top v) y.positive (h.same v (right (eqb v x) (is_in v xs) e)) (k.same v (left (eqb v x) (is_in v xs) e)) }
  where
    right : (a b : Bool) → (a || b) ≡ false → b ≡ false
    right true b e = absurd (cc)
    right false b e = e

    left : (a b : Bool) → (a || b) ≡ false → (a || false) ≡ false
    left true b e = absurd (cc)
    left false b e = refl

nothing_left : (w : Point) (r : Derived) → Good [] r → has_terms r.row.terms ≡ true → MeetsIn w r
nothing_left w r g h = absurd (go r.row.terms g.within h)
  where
    go : (ts : List (ℕ × ℤ)) → IsOver [] ts → has_terms ts ≡ true → ⊥
    go [] k e = absurd (cc)
    go (t ∷ ts) k e = let f = All-head (λ t. is_in t.0 [] ≡ true) t ts k in absurd (cc)

pub after-standing : (s : Step) (o : Outcome) (ss : List Step) → after_step s o ≡ standing ss → (ts : List Step) × (o ≡ standing ts) × (ss ≡ s ∷ ts)
after-standing s (refuted d) ss e = absurd (cc)
after-standing s (standing ts) ss e = (ts, refl, cc)
after-standing s (too_many n m) ss e = absurd (cc)
after-standing s too_great ss e = absurd (cc)

pub run-extends : (rule : Rule) (n : ℕ) (xs : List ℕ) (rows : List Derived) (ss : List Step) → run rule n xs (gathered rule rows) ≡ standing ss → All (Good xs) rows → (w : Point) → Extension xs w rows
unfolding run
run-extends rule n [] rows ss e g w = go (contradiction rows) refl e
  where
    go : (o : Option Derived) → contradiction rows ≡ o → ended_by o (unless_many n (tidied_by rule rows) (standing [])) ≡ standing ss → Extension [] w rows
    go None k e = record { point = w; agrees = record { same = λ v a. refl }; meets = ruled-out rule w rows k (All-both (Good []) (λ r. has_terms r.row.terms ≡ true) (MeetsIn w) (λ r a b. nothing_left w r a b) (tidied_by rule rows) (ruled-all rule (Good []) rows g) (ruled-terms rule rows)) }
    go (Some d) k e = absurd (cc)
run-extends rule n (x ∷ xs) rows ss e g w = go (λ ts k. run-extends rule (suc n) xs (eliminate_one x (tidied_by rule rows)) ts k (step-good x xs (tidied_by rule rows) (ruled-all rule (Good (x ∷ xs)) rows g)) w) (contradiction rows) refl e
  where
    lift : contradiction rows ≡ None → Extension xs w (eliminate_one x (tidied_by rule rows)) → Extension (x ∷ xs) w rows
    lift k a = let b = step-complete x a.point (tidied_by rule rows) a.meets in record { point = b.point; agrees = agrees-trans x xs w a.point b.point a.agrees b.agrees; meets = ruled-out rule b.point rows k b.meets }

    many : ((ts : List Step) → run rule (suc n) xs (gathered rule (eliminate_one x (tidied_by rule rows))) ≡ standing ts → Extension xs w (eliminate_one x (tidied_by rule rows))) → contradiction rows ≡ None → (b f : Bool) → cond b (too_many n (length (tidied_by rule rows))) (cond f (after_step (step_of x (tidied_by rule rows)) (run rule (suc n) xs (gathered rule (eliminate_one x (tidied_by rule rows))))) too_great) ≡ standing ss → Extension (x ∷ xs) w rows
    many ih k true f e = absurd (cc)
    many ih k false true e = let a = after-standing _ _ ss e in lift k (ih a.0 a.1)
    many ih k false false e = absurd (cc)

    go : ((ts : List Step) → run rule (suc n) xs (gathered rule (eliminate_one x (tidied_by rule rows))) ≡ standing ts → Extension xs w (eliminate_one x (tidied_by rule rows))) → (o : Option Derived) → contradiction rows ≡ o → ended_by o (unless_many n (tidied_by rule rows) (cond (step_fits x (tidied_by rule rows)) (after_step (step_of x (tidied_by rule rows)) (run rule (suc n) xs (gathered rule (eliminate_one x (tidied_by rule rows))))) too_great)) ≡ standing ss → Extension (x ∷ xs) w rows
    go ih None k e = many ih k (ltb 4096 (length (tidied_by rule rows))) (step_fits x (tidied_by rule rows)) e
    go ih (Some d) k e = absurd (cc)

abbrev pub origin : Point
origin = record { below = 1; positive = omega arith; top = λ v. pos 0 }

pub start-all : (P : Row → Type 0) (Q : Derived → Type 0) → ((d : Derived) → P d.row → Q d) → (k : ℕ) (rows : List Row) → All P rows → All Q (start k rows)
unfolding start
start-all P Q f k [] h = All-nil _
start-all P Q f k (r ∷ rs) h = All-cons Q (record { row = r; shares = (k, pos 1) ∷ []; over = 1 }) (start (suc k) rs) (f _ (All-head P r rs h)) (start-all P Q f (suc k) rs (All-tail P r rs h))

start-out : (P : Row → Type 0) (k : ℕ) (rows : List Row) → All (λ d. P d.row) (start k rows) → All P rows
unfolding start
start-out P k [] h = All-nil _
start-out P k (r ∷ rs) h = All-cons P r rs (All-head (λ d. P d.row) (record { row = r; shares = (k, pos 1) ∷ []; over = 1 }) (start (suc k) rs) h) (start-out P (suc k) rs (All-tail (λ d. P d.row) (record { row = r; shares = (k, pos 1) ∷ []; over = 1 }) (start (suc k) rs) h))

pub complete : (rule : Rule) (order : List ℕ) (first : List Row) (ss : List Step) → All (λ r. IsNormal r.terms × IsOver order r.terms) first → elimination_by rule order first ≡ standing ss → IsMetSomewhere first
complete rule order first ss h e =
    let x = run-extends rule 0 order (start 0 first) ss e (start-all (λ r. IsNormal r.terms × IsOver order r.terms) (Good order) (λ d p. record { normal = p.0; within = p.1 }) 0 first h) origin in
    record { at_point = x.point; meets = start-out (Meets x.point) 0 first x.meets }

-- The rows from an index on.
abbrev IsTail : ℕ → List Row → List Row → Type 0
IsTail zero fs rows = fs ≡ rows
IsTail (suc k) [] rows = ⊥
IsTail (suc k) (f ∷ fs) rows = IsTail k fs rows

abbrev without_first : List Row → List Row
without_first [] = []
without_first (x ∷ xs) = xs

tail-next : (k : ℕ) (fs : List Row) (r : Row) (rs : List Row) → IsTail k fs (r ∷ rs) → IsTail (suc k) fs rs
tail-next zero [] r rs e = absurd (cc)
tail-next zero (f ∷ fs) r rs e = ap without_first e
tail-next (suc k) [] r rs e = e
tail-next (suc k) (f ∷ fs) r rs e = tail-next k fs r rs e

tail-row : (k : ℕ) (fs : List Row) (r : Row) (rs : List Row) → IsTail k fs (r ∷ rs) → (row_at fs k ≡ r) × (k < length fs)
tail-row zero [] r rs e = absurd (cc)
tail-row zero (f ∷ fs) r rs e = (cc, omega arith)
tail-row (suc k) [] r rs e = absurd e
tail-row (suc k) (f ∷ fs) r rs e = let h = tail-row k fs r rs e in (h.0, let l = h.1 in omega (arith, l))

once : (z : ℤ) → pos 1 *ℤ z ≡ (pos 1 *ℤ z) +ℤ pos 0
once z = omega (arith, ints)

or_false : (a : Bool) → a ≡ (a || false)
or_false true = refl
or_false false = refl

own : (F : ℕ → ℤ) (k : ℕ) (z : ℤ) → F k ≡ z → pos 1 *ℤ z ≡ sum_at F ((k, pos 1) ∷ [])
own F k z e = once z ∙ ap (λ y. (pos 1 *ℤ y) +ℤ pos 0) (sym e) ∙ ap (λ y. (pos 1 *ℤ F k) +ℤ y) (sym (sum_at-nil F)) ∙ sym (sum_at-cons F (k, pos 1) [])

own_row : (first : List Row) (k : ℕ) (r : Row) → row_at first k ≡ r → k < length first → Follows first (record { row = r; shares = (k, pos 1) ∷ []; over = 1 })
unfolding any_at
own_row first k r e l = record {
  positive = omega arith;
  shares_normal = ((λ h. absurd (omega (arith, ints, h))), (All-nil _, tt));
  shares_positive = All-cons (λ (s : ℕ × ℤ). is_above_zero s.1 ≡ true) (k, pos 1) [] refl (All-nil _);
  shares_within = All-cons (λ (s : ℕ × ℤ). s.0 < length first) (k, pos 1) [] l (All-nil _);
  sums = λ f. own (λ i. sum_at f (row_at first i).terms) k (sum_at f r.terms) (ap (λ s. sum_at f s.terms) e);
  rest = own (λ i. (row_at first i).rest) k r.rest (ap (λ s. s.rest) e);
  strict = ap (λ s. s.strict) (sym e) ∙ or_false (row_at first k).strict;
}

start-follows : (first : List Row) (k : ℕ) (rows : List Row) → IsTail k first rows → All (Follows first) (start k rows)
unfolding start
start-follows first k [] t = All-nil _
start-follows first k (r ∷ rs) t = let h = tail-row k first r rs t in All-cons (Follows first) (record { row = r; shares = (k, pos 1) ∷ []; over = 1 }) (start (suc k) rs) (own_row first k r h.0 h.1) (start-follows first (suc k) rs (tail-next k first r rs t))

pub refuted-follows : (rule : Rule) (order : List ℕ) (first : List Row) (c : Derived) → elimination_by rule order first ≡ refuted c → Follows first c × (is_contradiction c.row ≡ true)
refuted-follows rule order first c e = refuted-all rule (Follows first) (λ x rows f h. step-follows first x rows h) 0 order (start 0 first) c e (start-follows first 0 first refl)
