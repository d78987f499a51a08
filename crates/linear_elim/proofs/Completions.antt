-- The rows before a step of an elimination without a contradiction: which values extend to
-- solutions of the first rows.
use Rattle.std.proofs.Common.{◌≡◌, ℕ, List, [], ◌∷◌, ◌++◌, length, map, refl, sym, ap, ◌∙◌, subst, Bool, true, false, cond, eqb, ltb}
use Rattle.std.specs.Prelude.{Option, Some, None}
use Prim.Native.Nat.{suc}
use Rattle.std.specs.List.{All}
use Rattle.std.proofs.lemmas.Bool.{eqb-true}
use Rattle.std.proofs.lemmas.List.Elements.{All-weaker}
use Rattle.heyvl_num.specs.Rational.{Rational}
use Rattle.linear_rows.specs.Terms.{is_in}
use Rattle.linear_rows.specs.Row.{Row}
use Rattle.linear_rows.specs.GreedyPoint.{IsCompleted}
use Rattle.linear_elim.specs.Joins.{Derived}
use Rattle.linear_elim.specs.Steps.{bare, eliminate_one, contradiction, step_fits}
use Rattle.linear_elim.specs.Elimination.{Step, step_of, Rule, tidied_by, gathered, after_step, ended_by, unless_many, run, start}
use Rattle.linear_elim.specs.Elimination.Outcome.{standing, too_many, too_great}
use Rattle.linear_elim.proofs.Shapes.{Good, step-good}
use Rattle.linear_elim.proofs.RuledRows.{ruled-all}
use Rattle.linear_elim.proofs.Solvability.{after-standing}
use Rattle.linear_elim.proofs.Projections.{in_more, completed_after, completed_before}

-- `Stands rule xs rows steps`: the elimination of the variables `xs` ends without a contradiction,
-- after `steps`.
abbrev pub Stands : Rule → List ℕ → List Derived → List Step → Type 0
Stands rule [] rows [] = contradiction rows ≡ None
Stands rule [] rows (s ∷ ss) = ⊥
Stands rule (x ∷ xs) rows [] = ⊥
Stands rule (x ∷ xs) rows (s ∷ ss) = (contradiction rows ≡ None) × (s ≡ step_of x (tidied_by rule rows)) × Stands rule xs (eliminate_one x (tidied_by rule rows)) ss

pub run_stands : (rule : Rule) (n : ℕ) (xs : List ℕ) (rows : List Derived) (ss : List Step) → run rule n xs (gathered rule rows) ≡ standing ss → Stands rule xs rows ss
unfolding run
run_stands rule n [] rows ss e = go (contradiction rows) refl e
  where
    many : (b : Bool) → contradiction rows ≡ None → cond b (too_many n (length (tidied_by rule rows))) (standing []) ≡ standing ss → Stands rule [] rows ss
    many true k e = absurd (cc)
    many false k e = let s : [] ≡ ss = cc in subst (Stands rule [] rows) s k

    go : (o : Option Derived) → contradiction rows ≡ o → ended_by o (unless_many n (tidied_by rule rows) (standing [])) ≡ standing ss → Stands rule [] rows ss
    go None k e = many (ltb 4096 (length (tidied_by rule rows))) k e
    go (Some d) k e = absurd (cc)
run_stands rule n (x ∷ xs) rows ss e = go (λ ts k. run_stands rule (suc n) xs (eliminate_one x (tidied_by rule rows)) ts k) (contradiction rows) refl e
  where
    many : ((ts : List Step) → run rule (suc n) xs (gathered rule (eliminate_one x (tidied_by rule rows))) ≡ standing ts → Stands rule xs (eliminate_one x (tidied_by rule rows)) ts) → contradiction rows ≡ None → (b f : Bool) → cond b (too_many n (length (tidied_by rule rows))) (cond f (after_step (step_of x (tidied_by rule rows)) (run rule (suc n) xs (gathered rule (eliminate_one x (tidied_by rule rows))))) too_great) ≡ standing ss → Stands rule (x ∷ xs) rows ss
    many ih k true f e = absurd (cc)
    many ih k false true e = let a = after-standing _ _ ss e in subst (Stands rule (x ∷ xs) rows) (sym a.2) (k, refl, ih a.0 a.1)
    many ih k false false e = absurd (cc)

    go : ((ts : List Step) → run rule (suc n) xs (gathered rule (eliminate_one x (tidied_by rule rows))) ≡ standing ts → Stands rule xs (eliminate_one x (tidied_by rule rows)) ts) → (o : Option Derived) → contradiction rows ≡ o → ended_by o (unless_many n (tidied_by rule rows) (cond (step_fits x (tidied_by rule rows)) (after_step (step_of x (tidied_by rule rows)) (run rule (suc n) xs (gathered rule (eliminate_one x (tidied_by rule rows))))) too_great)) ≡ standing ss → Stands rule (x ∷ xs) rows ss
    go ih None k e = many ih k (ltb 4096 (length (tidied_by rule rows))) (step_fits x (tidied_by rule rows)) e
    go ih (Some d) k e = absurd (cc)

abbrev pub vars_of : List Step → List ℕ
vars_of ss = map (λ s. s.var) ss

pub stands_vars : (rule : Rule) (xs : List ℕ) (rows : List Derived) (ss : List Step) → Stands rule xs rows ss → xs ≡ vars_of ss
stands_vars rule [] rows [] h = refl
stands_vars rule [] rows (s ∷ ss) h = absurd h
stands_vars rule (x ∷ xs) rows [] h = absurd h
stands_vars rule (x ∷ xs) rows (s ∷ ss) h = ap (λ y. y ∷ xs) (sym (ap (λ s. s.var) h.1)) ∙ ap (λ ys. s.var ∷ ys) (stands_vars rule xs (eliminate_one x (tidied_by rule rows)) ss h.2)

-- No variable occurs twice.
abbrev pub NoneTwice : List ℕ → Type 0
NoneTwice [] = Unit {0}
NoneTwice (x ∷ xs) = (is_in x xs ≡ false) × NoneTwice xs

pub apart : (v x : ℕ) (xs : List ℕ) → is_in v xs ≡ true → is_in x xs ≡ false → eqb v x ≡ false
apart v x xs h k = go (eqb v x) refl
  where
    go : (b : Bool) → eqb v x ≡ b → b ≡ false
    go true e = let s : is_in x xs ≡ true = subst (λ u. is_in u xs ≡ true) (eqb-true v x e) h in absurd (cc)
    go false e = refl

-- The rows before the step `s`: `x` is its variable, and values for `x` and the later variables
-- that satisfy the rows extend to solutions of the first rows.
pub record Reached (rule : Rule) (xs : List ℕ) (rows : List Derived) (s : Step) (after : List Step) : Type 0 where
  pub x : ℕ
  pub later : List ℕ
  pub now : List Derived
  pub good : All (Good (x ∷ later)) now
  pub clear : contradiction now ≡ None
  pub is_step : s ≡ step_of x (tidied_by rule now)
  pub vars : later ≡ vars_of after
  pub fresh : is_in x later ≡ false
  pub within : (v : ℕ) → is_in v (x ∷ later) ≡ true → is_in v xs ≡ true
  pub down : (chosen : List (ℕ × Rational)) → IsCompleted (bare rows) chosen → IsCompleted (bare now) chosen
  pub up : (chosen : List (ℕ × Rational)) → All (λ (c : ℕ × Rational). is_in c.0 (x ∷ later) ≡ true) chosen → IsCompleted (bare now) chosen → IsCompleted (bare rows) chosen

pub reached : (rule : Rule) (xs : List ℕ) (rows : List Derived) (before : List Step) (s : Step) (after : List Step) → Stands rule xs rows (before ++ (s ∷ after)) → NoneTwice xs → All (Good xs) rows → Reached rule xs rows s after
reached rule [] rows [] s after h n g = absurd h
reached rule (x ∷ xs) rows [] s after h n g = record {
  x = x;
  later = xs;
  now = rows;
  good = g;
  clear = h.0;
  is_step = h.1;
  vars = stands_vars rule xs (eliminate_one x (tidied_by rule rows)) after h.2;
  fresh = n.0;
  within = λ v e. e;
  down = λ chosen k. k;
  up = λ chosen a k. k;
}
reached rule [] rows (p ∷ before) s after h n g = absurd h
reached rule (x ∷ xs) rows (p ∷ before) s after h n g = lift (reached rule xs (eliminate_one x (tidied_by rule rows)) before s after h.2 n.1 (step-good x xs (tidied_by rule rows) (ruled-all rule (Good (x ∷ xs)) rows g)))
  where
    lift : Reached rule xs (eliminate_one x (tidied_by rule rows)) s after → Reached rule (x ∷ xs) rows s after
    lift r = record {
      x = r.x;
      later = r.later;
      now = r.now;
      good = r.good;
      clear = r.clear;
      is_step = r.is_step;
      vars = r.vars;
      fresh = r.fresh;
      within = λ v e. in_more v x xs (r.within v e);
      down = λ chosen k. r.down chosen (completed_after rule x xs rows chosen g k);
      up = λ chosen a k. completed_before rule x xs rows chosen h.0 g (All-weaker (λ (c : ℕ × Rational). is_in c.0 (r.x ∷ r.later) ≡ true) (λ (c : ℕ × Rational). eqb c.0 x ≡ false) (λ c e. apart c.0 x xs (r.within c.0 e) n.0) chosen a) (r.up chosen a k);
    }

pub bare_start : (k : ℕ) (rows : List Row) → bare (start k rows) ≡ rows
unfolding start
bare_start k [] = refl
bare_start k (r ∷ rs) = ap (λ rows. r ∷ rows) (bare_start (suc k) rs)
