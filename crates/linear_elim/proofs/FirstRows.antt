-- The first rows.
use Rattle.std.proofs.Common.{◌≡◌, ℕ, ◌+◌, ◌≤◌, List, [], ◌∷◌, length, drop, sym, ap, ap₂, ◌∙◌, arith}
use Rattle.std.specs.Prelude.{Option, None}
use borrow.Author.Differences.{ints}
use Prim.Native.Nat.{suc}
use Rattle.std.specs.List.{All}
use Rattle.std.proofs.lemmas.List.Elements.{All-nil, All-cons, All-head, All-tail}
use Rattle.linear_rows.specs.Terms.{IsNormal, IsOver}
use Rattle.linear_rows.specs.Row.{Row, IsRow}
use Rattle.linear_rows.proofs.exported.Between.{All-both}
use Rattle.linear_rows.proofs.exported.Fractions.{solvable_is}
use Rattle.linear_elim.specs.Joins.{Derived}
use Rattle.linear_elim.specs.internal.DerivedRows.{IsDerived}
use Rattle.linear_elim.specs.Steps.{tidied, contradiction}
use Rattle.linear_elim.specs.Elimination.{Step, Gathered, Rule, tidied_by, run, own, start, elimination}
use Rattle.linear_elim.specs.Elimination.Rule.{keeps}
use Rattle.linear_elim.specs.internal.GatheredRows.{after_all, found_after, rows_after, found_all, rows_all}
use Rattle.linear_elim.specs.internal.Outcomes.{outcome_of, Decided}
use Rattle.linear_elim.specs.declared.elimination.Outcome.{Outcome}
use Rattle.linear_elim.specs.declared.elimination.Outcome.TheVariants.{Refuted, Standing, TooMany, TooGreat}
use Rattle.linear_elim.proofs.JoinSequences.{found_none, rows_none, rest_end}
use Rattle.linear_elim.proofs.Solvability.{complete, refuted-follows, start-all}
use Rattle.linear_elim.proofs.Certificates.{refuted_unmet}
use Rattle.linear_elim.proofs.RuledRows.{ruled-all}

next : (n : ℕ) → suc n ≡ n + 1
next n = omega arith

start_more : (rows : List Row) (i : ℕ) (r : Row) → drop i rows ≡ r ∷ drop (i + 1) rows → start i (drop i rows) ≡ own i r ∷ start (i + 1) (drop (i + 1) rows)
unfolding start
start_more rows i r e = ap (start i) e ∙ ap (λ k. own i r ∷ start k (drop (i + 1) rows)) (next i)

pub start_found : (rows : List Row) (i : ℕ) (r : Row) (d : Derived) (o now f : Option Derived) → drop i rows ≡ r ∷ drop (i + 1) rows → d ≡ own i r → now ≡ found_after d o → found_all (start i (drop i rows)) o ≡ f → found_all (start (i + 1) (drop (i + 1) rows)) now ≡ f
unfolding found_all
start_found rows i r d o now f e j n h = ap (found_all (start (i + 1) (drop (i + 1) rows))) (n ∙ ap (λ y. found_after y o) j) ∙ ap (λ ds. found_all ds o) (sym (start_more rows i r e)) ∙ h

pub start_rows : (rows : List Row) (i : ℕ) (r : Row) (d : Derived) (ks now f : List Derived) → drop i rows ≡ r ∷ drop (i + 1) rows → d ≡ own i r → now ≡ rows_after d ks → rows_all (start i (drop i rows)) ks ≡ f → rows_all (start (i + 1) (drop (i + 1) rows)) now ≡ f
unfolding rows_all
start_rows rows i r d ks now f e j n h = ap (rows_all (start (i + 1) (drop (i + 1) rows))) (n ∙ ap (λ y. rows_after y ks) j) ∙ ap (λ ds. rows_all ds ks) (sym (start_more rows i r e)) ∙ h

pub found_end : (rows : List Row) (i : ℕ) (o : Option Derived) → length rows ≤ i → found_all (start i (drop i rows)) o ≡ found_all (start 0 rows) None → o ≡ contradiction (start 0 rows)
unfolding found_all start
found_end rows i o l h = ap (λ rs. found_all (start i rs) o) (sym (rest_end rows i l)) ∙ h ∙ found_none (start 0 rows)

pub rows_end : (rows : List Row) (i : ℕ) (ks : List Derived) → length rows ≤ i → rows_all (start i (drop i rows)) ks ≡ rows_all (start 0 rows) [] → ks ≡ tidied (start 0 rows)
unfolding rows_all start
rows_end rows i ks l h = ap (λ rs. rows_all (start i rs) ks) (sym (rest_end rows i l)) ∙ h ∙ rows_none (start 0 rows)

start-derived : (k : ℕ) (rows : List Row) → All IsRow rows → All IsDerived (start k rows)
unfolding start
start-derived k [] h = All-nil _
start-derived k (r ∷ rs) h = All-cons IsDerived (own k r) (start (suc k) rs) (record { is_row = All-head IsRow r rs h; shares_normal = ((λ e. absurd (omega (arith, ints, e))), (All-nil _, tt)); over_positive = omega arith; over_narrow = omega arith }) (start-derived (suc k) rs (All-tail IsRow r rs h))

pub first-derived : (rule : Rule) (rows : List Row) → All IsRow rows → All IsDerived (tidied_by rule (start 0 rows))
first-derived rule rows h = ruled-all rule IsDerived (start 0 rows) (start-derived 0 rows h)

pub first_over : (order : List ℕ) (rows : List Row) → All (λ r. IsOver order r.terms) rows → All (λ r. IsOver order r.row.terms) (tidied (start 0 rows))
first_over order rows h = ruled-all keeps (λ r. IsOver order r.row.terms) (start 0 rows) (start-all (λ r. IsOver order r.terms) (λ r. IsOver order r.row.terms) (λ d p. p) 0 rows h)

pub decided : (order : List ℕ) (rows : List Row) (o : Outcome) → All IsRow rows → All (λ r. IsOver order r.terms) rows → outcome_of o ≡ elimination order rows → Decided rows o
decided order rows (Refuted c) h k e = λ s. let f = refuted-follows keeps order rows c (sym e) in refuted_unmet rows c f.0 f.1 ((solvable_is rows).0 s)
decided order rows (Standing ss) h k e = (solvable_is rows).1 (complete keeps order rows ss.items (All-both IsRow (λ r. IsOver order r.terms) (λ r. IsNormal r.terms × IsOver order r.terms) (λ r a b. (a.normal, b)) rows h k) (sym e))
decided order rows (TooMany n c) h k e = tt
decided order rows TooGreat h k e = tt

abbrev pub put_together : Option Derived → List Derived → Gathered
put_together o rs = record { found = o; rows = rs }

pub started : (order : List ℕ) (rows : List Row) (ss : List Step) (o : Option Derived) (ks : List Derived) → ss ≡ [] → o ≡ contradiction (start 0 rows) → ks ≡ tidied (start 0 rows) → after_all ss (run keeps 0 order (record { found = o; rows = ks })) ≡ elimination order rows
unfolding after_all
started order rows ss o ks e f h = ap₂ (λ (ts : List Step) (g : Gathered). after_all ts (run keeps 0 order g)) e (ap₂ put_together f h)
