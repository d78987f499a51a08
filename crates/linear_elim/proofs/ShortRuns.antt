-- The outcome of a run without dominated rows.
use Rattle.std.proofs.Common.{◌≡◌, ℕ, ◌+◌, ◌<◌, ◌≤◌, List, [], ◌∷◌, ◌++◌, length, refl, sym, ap, ap₂, subst, ◌∙◌, true, not}
use Rattle.std.specs.Prelude.{Option, Some, None, Result, Ok, Err, IfOk}
use Rattle.std.specs.List.{All}
use Rattle.std.proofs.lemmas.List.Elements.{All-filter}
use Rattle.linear_rows.specs.Row.{Row}
use Rattle.linear_rows.specs.Terms.{IsOver}
use Rattle.linear_dominance.specs.DominatedRows.{is_dominated}
use Rattle.linear_elim.specs.Joins.{Derived}
use Rattle.linear_elim.specs.Steps.{bare, undominated, tidied, contradiction, step_fits, eliminate_one}
use Rattle.linear_elim.specs.Elimination.{Step, Gathered, Outcome, step_of, run, start, elimination_by}
use Rattle.linear_elim.specs.Elimination.Rule.{drops}
use Rattle.linear_elim.specs.Elimination.Outcome.{refuted, too_many, too_great}
use Rattle.linear_elim.specs.internal.GatheredRows.{after_all}
use Rattle.linear_elim.specs.internal.Outcomes.{IsLimited, IsShort, short_gathering}
use Rattle.linear_elim.specs.declared.short_runs.Short.{Short}
use Rattle.linear_elim.specs.internal.DerivedRows.{IsDerived}
use Rattle.linear_elim.specs.declared.gathered_rows.Gathering.{Gathering}
use Rattle.linear_elim.proofs.FoundEnds.{ends_many, goes_on, found_next, many_next}

pub many_limited : (n k : ℕ) (o : Outcome) → too_many n k ≡ o → IsLimited o
many_limited n k o e = subst IsLimited e tt

pub great_limited : (o : Outcome) → too_great ≡ o → IsLimited o
great_limited o e = subst IsLimited e tt

abbrev made : Option Derived → List Derived → Gathered
made o rs = record { found = o; rows = rs }

pub many_left : (ss : List Step) (n : ℕ) (xs : List ℕ) (o : Option Derived) (rows : List Derived) → o ≡ None → 4096 < length rows → IsLimited (after_all ss (run drops n xs (made o rows)))
many_left ss n xs o rows e h = many_limited n (length rows) _ (ends_many drops ss n xs (made o rows) (length rows) e refl h)

pub short_same : (o : Short) (x y : Outcome) → x ≡ y → IsShort o x → IsShort o y
short_same o x y e h = subst (IsShort o) e h

pub short_ok : {E : Type 0} (r : Result Short E) (x : ℕ → Outcome) (y : ℕ → Outcome) → ((n : ℕ) → x (n + 1) ≡ y n) → IfOk r (λ o. (n : ℕ) → IsShort o (x n)) → IfOk r (λ o. (n : ℕ) → IsShort o (y n))
short_ok (Ok o) x y e h = λ n. short_same o (x (n + 1)) (y n) (e n) (h (n + 1))
short_ok (Err a) x y e h = tt

pub short_started : (order : List ℕ) (rows : List Row) (ss : List Step) (o : Option Derived) (ks : List Derived) → ss ≡ [] → o ≡ contradiction (start 0 rows) → ks ≡ tidied (start 0 rows) → after_all ss (run drops 0 order (made o (undominated ks))) ≡ elimination_by drops order rows
unfolding after_all
short_started order rows ss o ks e f h = ap₂ (λ (ts : List Step) (g : Gathered). after_all ts (run drops 0 order g)) e (ap₂ made f (ap undominated h))

pub left_derived : (rows left : List Derived) → left ≡ undominated rows → All IsDerived rows → All IsDerived left
left_derived rows left e h = subst (All IsDerived) (sym e) (All-filter (λ d. not (is_dominated (bare rows) d.row)) IsDerived rows h)

pub next_short : (ss now : List Step) (n : ℕ) (xs ys : List ℕ) (x : ℕ) (g h : Gathering) (s : Step) (left : List Derived) → left ≡ undominated g.rows.items → length left ≤ 4096 → xs ≡ x ∷ ys → g.found ≡ None → (true ≡ step_fits x left) × (s ≡ step_of x left) × (h.found ≡ contradiction (eliminate_one x left)) × (h.rows.items ≡ tidied (eliminate_one x left)) → now ≡ ss ++ s ∷ [] → after_all now (run drops (n + 1) ys (short_gathering h)) ≡ after_all ss (run drops n xs (short_gathering g))
next_short ss now n xs ys x g h s left e l m k p r =
    let q = subst (λ ds. (true ≡ step_fits x ds) × (s ≡ step_of x ds) × (h.found ≡ contradiction (eliminate_one x ds)) × (h.rows.items ≡ tidied (eliminate_one x ds))) e p in
    goes_on drops ss now n xs ys x (short_gathering g) (short_gathering h) s (length (undominated g.rows.items)) m k refl (subst (λ ds. length ds ≤ 4096) e l) q.0 q.1 q.2 (ap undominated q.3) r

pub left_over : (order : List ℕ) (rows left : List Derived) → left ≡ undominated rows → All (λ r. IsOver order r.row.terms) rows → All (λ r. IsOver order r.row.terms) left
left_over order rows left e h = subst (All (λ r. IsOver order r.row.terms)) (sym e) (All-filter (λ d. not (is_dominated (bare rows) d.row)) (λ r. IsOver order r.row.terms) rows h)

pub short_counted : (ss : List Step) (n : ℕ) (xs ys : List ℕ) (x : ℕ) (g : Gathering) (left : List Derived) (c : ℕ) (o : Option Derived) (r : Short) → left ≡ undominated g.rows.items → length left ≤ 4096 → xs ≡ x ∷ ys → g.found ≡ None → (true ≡ step_fits x left) × (o ≡ contradiction (eliminate_one x left)) × (c ≡ length (tidied (eliminate_one x left))) × (4096 < c) → undominated (tidied (eliminate_one x left)) ≡ tidied (eliminate_one x left) → ((d : Derived) (p : Outcome) → o ≡ Some d → refuted d ≡ p → IsShort r p) → ((p : Outcome) → o ≡ None → IsLimited p → IsShort r p) → IsShort r (after_all ss (run drops n xs (short_gathering g)))
short_counted ss n xs ys x g left c o r e l m k p q f t = subst (λ ds. IsShort r (after_all ss (run drops n xs (made g.found ds)))) e (go o p.1 f t)
  where
    go : (o : Option Derived) → o ≡ contradiction (eliminate_one x left) → ((d : Derived) (p : Outcome) → o ≡ Some d → refuted d ≡ p → IsShort r p) → ((p : Outcome) → o ≡ None → IsLimited p → IsShort r p) → IsShort r (after_all ss (run drops n xs (made g.found left)))
    go None h f t = t _ refl (many_limited (n + 1) c _ (many_next drops ss n xs ys x (made g.found left) (length left) c m k refl l p.0 h (p.2 ∙ ap length (sym q)) p.3))
    go (Some d) h f t = f d _ refl (found_next drops ss n xs ys x (made g.found left) (length left) d m k refl l p.0 h)
