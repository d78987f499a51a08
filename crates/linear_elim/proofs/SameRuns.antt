-- If no variable has its sign row, the elimination is the same without dominated rows.
use Rattle.std.proofs.Common.{◌≡◌, ℕ, ◌<◌, List, [], ◌∷◌, length, map, refl, sym, ap, subst, ◌∙◌, arith, Bool, true, false, cond, not, eqb, ltb, ◌||◌, ◌&&◌}
use Rattle.std.specs.Prelude.{ℤ, Option, Some}
use Rattle.std.proofs.lemmas.Bool.{eqb-true}
use Rattle.std.proofs.lemmas.Bool.Decides.{nat_tests}
use Prim.Native.Nat.{suc}
use Rattle.std.specs.List.{All, filter}
use Rattle.std.proofs.lemmas.List.Elements.{All-head, All-tail, All-weaker}
use Rattle.heyvl_num.specs.Value.{is_zero_num}
use Rattle.linear_rows.specs.Terms.{is_in, IsOver}
use Rattle.linear_rows.specs.Row.{Row}
use Rattle.linear_rows.specs.SameTerms.{same_terms}
use Rattle.linear_rows.proofs.exported.Between.{All-both}
use Rattle.linear_dominance.specs.DominatedRows.{first_variable, is_sign_row, signed_variables, is_dominated}
use Rattle.linear_dominance.proofs.exported.Signless.{never_dominated}
use Rattle.linear_elim.specs.Joins.{Derived}
use Rattle.linear_elim.specs.Steps.{bare, undominated, tidied, contradiction, step_fits, eliminate_one}
use Rattle.linear_elim.specs.Elimination.{Gathered, step_of, gathered, after_step, ended_by, unless_many, run, start, elimination, elimination_by}
use Rattle.linear_elim.specs.Elimination.Rule.{keeps, drops}
use Rattle.linear_elim.specs.Elimination.Outcome.{too_many, too_great}
use Rattle.linear_elim.specs.internal.DerivedRows.{IsDerived}
use Rattle.linear_elim.specs.internal.Signless.{sign_terms, AreSignless}
use Rattle.linear_elim.proofs.Shapes.{Good, step-good}
use Rattle.linear_elim.proofs.TidyRows.{tidied-all}

-- ---- No row is dominated

all_left : (all rows : List Derived) → signed_variables (bare all) ≡ [] → filter (λ d. not (is_dominated (bare all) d.row)) rows ≡ rows
all_left all [] e = refl
all_left all (r ∷ rs) e = ap (λ b. cond (not b) (r ∷ filter (λ d. not (is_dominated (bare all) d.row)) rs) (filter (λ d. not (is_dominated (bare all) d.row)) rs)) (never_dominated (bare all) r.row e) ∙ ap (λ xs. r ∷ xs) (all_left all rs e)

pub none_dominated : (rows seen : List Derived) → seen ≡ rows → signed_variables (bare seen) ≡ [] → undominated rows ≡ rows
none_dominated rows seen s e = all_left rows rows (ap (λ ds. signed_variables (bare ds)) (sym s) ∙ e)

in_all : (P : ℕ → Type 0) (xs : List ℕ) (x : ℕ) → All P xs → is_in x xs ≡ true → P x
in_all P [] x h e = absurd (cc)
in_all P (y ∷ ys) x h e = go (eqb x y) refl (in_all P ys x (All-tail P y ys h)) e
  where
    go : (b : Bool) → eqb x y ≡ b → (is_in x ys ≡ true → P x) → (b || is_in x ys) ≡ true → P x
    go true q later k = subst P (sym (eqb-true x y q)) (All-head P y ys h)
    go false q later k = later k

no_sign : (xs : List ℕ) (r : Derived) → IsOver xs r.row.terms → All (λ x. same_terms r.row.terms (sign_terms x) ≡ false) xs → is_sign_row r.row ≡ false
no_sign xs r o h = go r.row.terms o h
  where
    go : (ts : List (ℕ × ℤ)) → IsOver xs ts → All (λ x. same_terms ts (sign_terms x) ≡ false) xs → (same_terms ts (sign_terms (first_variable ts)) && (is_zero_num r.row.rest && not r.row.strict)) ≡ false
    go [] o h = refl
    go (t ∷ ts) o h = ap (λ b. b && (is_zero_num r.row.rest && not r.row.strict)) (in_all (λ x. same_terms (t ∷ ts) (sign_terms x) ≡ false) xs t.0 h (All-head (λ u. is_in u.0 xs ≡ true) t ts o))

no_signs : (xs : List ℕ) (rows : List Derived) → All (λ r. IsOver xs r.row.terms) rows → AreSignless xs rows → signed_variables (bare rows) ≡ []
no_signs xs [] o h = refl
no_signs xs (r ∷ rs) o h =
    ap (λ b. map (λ (s : Row). first_variable s.terms) (cond b (r.row ∷ filter is_sign_row (bare rs)) (filter is_sign_row (bare rs)))) (no_sign xs r (All-head (λ s. IsOver xs s.row.terms) r rs o) (All-weaker (λ x. All (λ s. same_terms s.row.terms (sign_terms x) ≡ false) (r ∷ rs)) (λ x. same_terms r.row.terms (sign_terms x) ≡ false) (λ x k. All-head (λ s. same_terms s.row.terms (sign_terms x) ≡ false) r rs k) xs h))
    ∙ no_signs xs rs (All-tail (λ s. IsOver xs s.row.terms) r rs o) (All-weaker (λ x. All (λ s. same_terms s.row.terms (sign_terms x) ≡ false) (r ∷ rs)) (λ x. All (λ s. same_terms s.row.terms (sign_terms x) ≡ false) rs) (λ x k. All-tail (λ s. same_terms s.row.terms (sign_terms x) ≡ false) r rs k) xs h)

pub step_over : (x : ℕ) (xs ys : List ℕ) (rows : List Derived) → ys ≡ x ∷ xs → All IsDerived rows → All (λ r. IsOver ys r.row.terms) rows → All (λ r. IsOver xs r.row.terms) (tidied (eliminate_one x rows))
step_over x xs ys rows e d o = All-weaker (Good xs) (λ r. IsOver xs r.row.terms) (λ r g. g.within) (tidied (eliminate_one x rows)) (tidied-all (Good xs) (eliminate_one x rows) (step-good x xs rows (All-both IsDerived (λ r. IsOver ys r.row.terms) (Good (x ∷ xs)) (λ r a b. record { normal = a.is_row.normal; within = subst (λ vs. IsOver vs r.row.terms) e b }) rows d o)))

pub none_after : (x : ℕ) (xs ys : List ℕ) (rows : List Derived) → ys ≡ x ∷ xs → All IsDerived rows → All (λ r. IsOver ys r.row.terms) rows → AreSignless xs (tidied (eliminate_one x rows)) → undominated (tidied (eliminate_one x rows)) ≡ tidied (eliminate_one x rows)
none_after x xs ys rows e d o h = none_dominated (tidied (eliminate_one x rows)) (tidied (eliminate_one x rows)) refl (no_signs xs (tidied (eliminate_one x rows)) (step_over x xs ys rows e d o) h)

-- ---- Equal runs

abbrev made : Option Derived → List Derived → Gathered
made o rs = record { found = o; rows = rs }

-- The runs from these rows are the same with dominated rows and without them.
abbrev pub AreSame : List ℕ → Option Derived → List Derived → Type 0
AreSame xs o rows = (n : ℕ) → run drops n xs (made o (undominated rows)) ≡ run keeps n xs (made o rows)

pub same_found : (xs : List ℕ) (o : Option Derived) (c : Derived) (rows : List Derived) → o ≡ Some c → AreSame xs o rows
unfolding run
same_found xs o c rows e n = subst (λ p. run drops n xs (made p (undominated rows)) ≡ run keeps n xs (made p rows)) (sym e) (go xs)
  where
    go : (xs : List ℕ) → run drops n xs (made (Some c) (undominated rows)) ≡ run keeps n xs (made (Some c) rows)
    go [] = refl
    go (y ∷ ys) = refl

from_left : (xs : List ℕ) (o : Option Derived) (rows : List Derived) → undominated rows ≡ rows → ((n : ℕ) → run drops n xs (made o rows) ≡ run keeps n xs (made o rows)) → AreSame xs o rows
from_left xs o rows e h n = ap (λ rs. run drops n xs (made o rs)) e ∙ h n

pub same_end : (xs : List ℕ) (o : Option Derived) (rows : List Derived) → xs ≡ [] → undominated rows ≡ rows → AreSame xs o rows
unfolding run
same_end xs o rows e l = from_left xs o rows l (λ n. subst (λ ys. run drops n ys (made o rows) ≡ run keeps n ys (made o rows)) (sym e) (go n))
  where
    go : (n : ℕ) → run drops n [] (made o rows) ≡ run keeps n [] (made o rows)
    go n = refl

many_test : (k : ℕ) → 4096 < k → ltb 4096 k ≡ true
many_test k h = grind (arith, nat_tests)

pub same_many : (xs : List ℕ) (o : Option Derived) (rows : List Derived) (k : ℕ) → undominated rows ≡ rows → k ≡ length rows → 4096 < k → AreSame xs o rows
unfolding run
same_many xs o rows k l e h = from_left xs o rows l (λ n. go xs n (ap (ltb 4096) (sym e) ∙ many_test k h))
  where
    go : (xs : List ℕ) (n : ℕ) → ltb 4096 (length rows) ≡ true → run drops n xs (made o rows) ≡ run keeps n xs (made o rows)
    go [] n m = refl
    go (y ∷ ys) n m = ap (λ b. ended_by o (cond b (too_many n (length rows)) (cond (step_fits y rows) (after_step (step_of y rows) (run drops (suc n) ys (gathered drops (eliminate_one y rows)))) too_great))) m ∙ sym (ap (λ b. ended_by o (cond b (too_many n (length rows)) (cond (step_fits y rows) (after_step (step_of y rows) (run keeps (suc n) ys (gathered keeps (eliminate_one y rows)))) too_great))) m)

pub same_step : (xs ys : List ℕ) (x : ℕ) (o : Option Derived) (rows : List Derived) → xs ≡ x ∷ ys → undominated rows ≡ rows → (true ≡ step_fits x rows → AreSame ys (contradiction (eliminate_one x rows)) (tidied (eliminate_one x rows))) → AreSame xs o rows
unfolding run
same_step xs ys x o rows e l h = from_left xs o rows l (λ n. subst (λ zs. run drops n zs (made o rows) ≡ run keeps n zs (made o rows)) (sym e) (go n))
  where
    fit : (n : ℕ) (b : Bool) → step_fits x rows ≡ b → cond b (after_step (step_of x rows) (run drops (suc n) ys (gathered drops (eliminate_one x rows)))) too_great ≡ cond b (after_step (step_of x rows) (run keeps (suc n) ys (gathered keeps (eliminate_one x rows)))) too_great
    fit n true f = ap (after_step (step_of x rows)) (h (sym f) (suc n))
    fit n false f = refl

    go : (n : ℕ) → run drops n (x ∷ ys) (made o rows) ≡ run keeps n (x ∷ ys) (made o rows)
    go n = ap (λ r. ended_by o (unless_many n rows r)) (fit n (step_fits x rows) refl)

pub same_great : (xs ys : List ℕ) (x : ℕ) (o : Option Derived) (rows : List Derived) → xs ≡ x ∷ ys → undominated rows ≡ rows → false ≡ step_fits x rows → AreSame xs o rows
same_great xs ys x o rows e l f = same_step xs ys x o rows e l (λ t. let k : false ≡ true = f ∙ sym t in absurd (cc))

pub same_counted : (xs ys : List ℕ) (x : ℕ) (o : Option Derived) (rows : List Derived) (k : ℕ) → xs ≡ x ∷ ys → undominated rows ≡ rows → undominated (tidied (eliminate_one x rows)) ≡ tidied (eliminate_one x rows) → k ≡ length (tidied (eliminate_one x rows)) → 4096 < k → AreSame xs o rows
same_counted xs ys x o rows k e l m c h = same_step xs ys x o rows e l (λ t. same_many ys (contradiction (eliminate_one x rows)) (tidied (eliminate_one x rows)) k m c h)

pub same_kept : (xs ys : List ℕ) (x : ℕ) (o p : Option Derived) (rows next : List Derived) → xs ≡ x ∷ ys → undominated rows ≡ rows → p ≡ contradiction (eliminate_one x rows) → next ≡ tidied (eliminate_one x rows) → AreSame ys p next → AreSame xs o rows
same_kept xs ys x o p rows next e l f r h = same_step xs ys x o rows e l (λ t. subst (λ q. AreSame ys q (tidied (eliminate_one x rows))) f (subst (AreSame ys p) r h))

pub same_started : (order : List ℕ) (rows : List Row) (o : Option Derived) (ks : List Derived) → o ≡ contradiction (start 0 rows) → ks ≡ tidied (start 0 rows) → AreSame order o ks → elimination_by drops order rows ≡ elimination order rows
same_started order rows o ks e f h = subst (λ p. AreSame order p (tidied (start 0 rows))) e (subst (AreSame order o) f h) 0
