-- Values satisfy the rows after a step exactly if they extend to values that satisfy the rows
-- before it.
use Rattle.std.proofs.Common.{◌≡◌, ℕ, List, [], ◌∷◌, refl, ap, ◌∙◌, Bool, true, false, cond, eqb, ◌||◌}
use Rattle.std.specs.Prelude.{ℤ, None}
use Rattle.std.specs.List.{All}
use Rattle.std.proofs.lemmas.List.Elements.{All-weaker, All-map}
use Rattle.heyvl_num.specs.Rational.{Rational, ratio}
use Rattle.heyvl_num.proofs.exported.Rationals.{ratio_same}
use Rattle.linear_rows.specs.Terms.{is_in, IsOver}
use Rattle.linear_rows.specs.Solutions.{MeetsAt}
use Rattle.linear_rows.specs.GreedyPoint.{IsCompleted}
use Rattle.linear_rows.proofs.exported.Between.{All-both}
use Rattle.linear_rows.proofs.exported.Fractions.{Same, meets_alike, point_of, point_same}
use Rattle.linear_elim.specs.Joins.{Derived}
use Rattle.linear_elim.specs.Steps.{bare, eliminate_one, contradiction}
use Rattle.linear_elim.specs.Elimination.{Rule, tidied_by}
use Rattle.linear_elim.proofs.Solutions.{MeetsIn, Extension, step-sound, step-complete, all_map-out}
use Rattle.linear_elim.proofs.Shapes.{Good, step-good}
use Rattle.linear_elim.proofs.RuledRows.{ruled-all, ruled-out}

abbrev pub Met : (ℕ → Rational) → List Derived → Type 0
Met f rows = All (λ d. MeetsAt f d.row) rows

same_over : (f : ℕ → Rational) (vs : List ℕ) (ts : List (ℕ × ℤ)) → IsOver vs ts → Same f (point_of f vs) ts
unfolding Same
same_over f vs ts h = All-weaker (λ t. is_in t.0 vs ≡ true) (λ t. f t.0 ≡ ratio ((point_of f vs).top t.0) (point_of f vs).below) (λ t e. point_same f vs t.0 e) ts h

pub met_point : (f : ℕ → Rational) (vs : List ℕ) (rows : List Derived) → All (Good vs) rows → Met f rows → All (MeetsIn (point_of f vs)) rows
met_point f vs rows g m = All-both (Good vs) (λ d. MeetsAt f d.row) (MeetsIn (point_of f vs)) (λ d k n. (meets_alike f (point_of f vs) d.row (same_over f vs d.row.terms k.within)).1 n) rows g m

pub point_met : (f : ℕ → Rational) (vs : List ℕ) (rows : List Derived) → All (Good vs) rows → All (MeetsIn (point_of f vs)) rows → Met f rows
point_met f vs rows g m = All-both (Good vs) (MeetsIn (point_of f vs)) (λ d. MeetsAt f d.row) (λ d k n. (meets_alike f (point_of f vs) d.row (same_over f vs d.row.terms k.within)).0 n) rows g m

pub in_more : (v x : ℕ) (xs : List ℕ) → is_in v xs ≡ true → is_in v (x ∷ xs) ≡ true
in_more v x xs e = go (eqb v x) (is_in v xs) e
  where
    go : (a b : Bool) → b ≡ true → (a || b) ≡ true
    go true b e = refl
    go false b e = e

good_more : (x : ℕ) (xs : List ℕ) (rows : List Derived) → All (Good xs) rows → All (Good (x ∷ xs)) rows
good_more x xs rows h = All-weaker (Good xs) (Good (x ∷ xs)) (λ r g. record { normal = g.normal; within = All-weaker (λ t. is_in t.0 xs ≡ true) (λ t. is_in t.0 (x ∷ xs) ≡ true) (λ t e. in_more t.0 x xs e) r.row.terms g.within }) rows h

pub met_tidied : (rule : Rule) (x : ℕ) (xs : List ℕ) (f : ℕ → Rational) (rows : List Derived) → contradiction rows ≡ None → All (Good xs) rows → Met f (tidied_by rule rows) → Met f rows
met_tidied rule x xs f rows e g m = point_met f xs rows g (ruled-out rule (point_of f xs) rows e (met_point f xs (tidied_by rule rows) (ruled-all rule (Good xs) rows g) m))

pub met_after : (x : ℕ) (xs : List ℕ) (f : ℕ → Rational) (rows : List Derived) → All (Good (x ∷ xs)) rows → Met f rows → Met f (eliminate_one x rows)
met_after x xs f rows g m = point_met f (x ∷ xs) (eliminate_one x rows) (good_more x xs (eliminate_one x rows) (step-good x xs rows g)) (step-sound x (point_of f (x ∷ xs)) rows (met_point f (x ∷ xs) rows g m))

-- The values with one changed, so that they satisfy the rows.
pub record Extended (x : ℕ) (f : ℕ → Rational) (rows : List Derived) : Type 0 where
  pub values : ℕ → Rational
  pub agrees : (v : ℕ) → eqb v x ≡ false → values v ≡ f v
  pub meets : Met values rows

pub met_before : (x : ℕ) (xs : List ℕ) (f : ℕ → Rational) (rows : List Derived) → All (Good (x ∷ xs)) rows → Met f (eliminate_one x rows) → Extended x f rows
unfolding Same
met_before x xs f rows g m = found (step-complete x (point_of f xs) rows (met_point f xs (eliminate_one x rows) (step-good x xs rows g) m))
  where
    found : Extension (x ∷ []) (point_of f xs) rows → Extended x f rows
    found e = record {
      values = λ v. cond (eqb v x) (ratio (e.point.top v) e.point.below) (f v);
      agrees = λ v n. ap (λ b. cond b (ratio (e.point.top v) e.point.below) (f v)) n;
      meets = All-both (Good (x ∷ xs)) (MeetsIn e.point) (λ d. MeetsAt (λ v. cond (eqb v x) (ratio (e.point.top v) e.point.below) (f v)) d.row) (λ d k n. (meets_alike (λ v. cond (eqb v x) (ratio (e.point.top v) e.point.below) (f v)) e.point d.row (All-weaker (λ t. is_in t.0 (x ∷ xs) ≡ true) (λ t. cond (eqb t.0 x) (ratio (e.point.top t.0) e.point.below) (f t.0) ≡ ratio (e.point.top t.0) e.point.below) (λ t i. go t.0 (eqb t.0 x) refl i) d.row.terms k.within)).0 n) rows g e.meets;
    }
      where
        go : (v : ℕ) (b : Bool) → eqb v x ≡ b → (b || is_in v xs) ≡ true → cond b (ratio (e.point.top v) e.point.below) (f v) ≡ ratio (e.point.top v) e.point.below
        go v true k i = refl
        go v false k i = point_same f xs v i ∙ ratio_same ((point_of f xs).top v) (point_of f xs).below (e.point.top v) e.point.below (point_of f xs).positive e.point.positive (e.agrees.same v (ap (λ b. b || false) k))

abbrev pub Lacks : ℕ → List (ℕ × Rational) → Type 0
Lacks x chosen = All (λ (c : ℕ × Rational). eqb c.0 x ≡ false) chosen

pub met_bare : (f : ℕ → Rational) (rows : List Derived) → Met f rows → All (MeetsAt f) (bare rows)
met_bare f rows m = All-map (MeetsAt f) (λ d. d.row) rows m

pub bare_met : (f : ℕ → Rational) (rows : List Derived) → All (MeetsAt f) (bare rows) → Met f rows
bare_met f rows m = all_map-out (MeetsAt f) (λ d. d.row) rows m

pub completed_after : (rule : Rule) (x : ℕ) (xs : List ℕ) (rows : List Derived) (chosen : List (ℕ × Rational)) → All (Good (x ∷ xs)) rows → IsCompleted (bare rows) chosen → IsCompleted (bare (eliminate_one x (tidied_by rule rows))) chosen
completed_after rule x xs rows chosen g h = record { at_values = h.at_values; agrees = h.agrees; meets = met_bare h.at_values (eliminate_one x (tidied_by rule rows)) (met_after x xs h.at_values (tidied_by rule rows) (ruled-all rule (Good (x ∷ xs)) rows g) (ruled-all rule (λ d. MeetsAt h.at_values d.row) rows (bare_met h.at_values rows h.meets))) }

pub completed_before : (rule : Rule) (x : ℕ) (xs : List ℕ) (rows : List Derived) (chosen : List (ℕ × Rational)) → contradiction rows ≡ None → All (Good (x ∷ xs)) rows → Lacks x chosen → IsCompleted (bare (eliminate_one x (tidied_by rule rows))) chosen → IsCompleted (bare rows) chosen
completed_before rule x xs rows chosen e g l h = found (met_before x xs h.at_values (tidied_by rule rows) (ruled-all rule (Good (x ∷ xs)) rows g) (bare_met h.at_values (eliminate_one x (tidied_by rule rows)) h.meets))
  where
    found : Extended x h.at_values (tidied_by rule rows) → IsCompleted (bare rows) chosen
    found k = record {
      at_values = k.values;
      agrees = All-both (λ (c : ℕ × Rational). eqb c.0 x ≡ false) (λ (c : ℕ × Rational). h.at_values c.0 ≡ c.1) (λ (c : ℕ × Rational). k.values c.0 ≡ c.1) (λ c n a. k.agrees c.0 n ∙ a) chosen l h.agrees;
      meets = met_bare k.values rows (met_tidied rule x (x ∷ xs) k.values rows e g k.meets);
    }
