-- The outcome of a run.
use Rattle.std.proofs.Common.{◌≡◌, ℕ, ◌+◌, ◌<◌, ◌≤◌, List, [], ◌∷◌, ◌++◌, length, refl, sym, ap, ap₂, ◌∙◌, arith, true, false, cond, ltb}
use Rattle.std.specs.Prelude.{Option, Some, None, Result, Ok, Err, IfOk}
use Rattle.std.proofs.lemmas.Bool.Decides.{nat_tests}
use Prim.Native.Nat.{suc}
use Rattle.linear_elim.specs.Joins.{Derived}
use Rattle.linear_elim.specs.Steps.{step_fits, eliminate_one, contradiction}
use Rattle.linear_elim.specs.Elimination.{Step, Gathered, Outcome, Rule, tidied_by, gathered, step_of, after_step, ended_by, unless_many, run}
use Rattle.linear_elim.specs.internal.GatheredRows.{after_all}
use Rattle.linear_elim.specs.Elimination.Outcome.{refuted, standing, too_many, too_great}

all_refuted : (ss : List Step) (c : Derived) → after_all ss (refuted c) ≡ refuted c
unfolding after_all
all_refuted [] c = refl
all_refuted (s ∷ ss) c = ap (after_step s) (all_refuted ss c)

all_many : (ss : List Step) (n c : ℕ) → after_all ss (too_many n c) ≡ too_many n c
unfolding after_all
all_many [] n c = refl
all_many (s ∷ ss) n c = ap (after_step s) (all_many ss n c)

all_great : (ss : List Step) → after_all ss too_great ≡ too_great
unfolding after_all
all_great [] = refl
all_great (s ∷ ss) = ap (after_step s) (all_great ss)

all_standing : (ss : List Step) → after_all ss (standing []) ≡ standing ss
unfolding after_all
all_standing [] = refl
all_standing (s ∷ ss) = ap (after_step s) (all_standing ss)

all_push : (ss : List Step) (s : Step) (o : Outcome) → after_all (ss ++ s ∷ []) o ≡ after_all ss (after_step s o)
unfolding after_all
all_push [] s o = refl
all_push (r ∷ ss) s o = ap (after_step r) (all_push ss s o)

pub ends_found : (rule : Rule) (ss : List Step) (n : ℕ) (xs : List ℕ) (g : Gathered) (c : Derived) → g.found ≡ Some c → refuted c ≡ after_all ss (run rule n xs g)
unfolding run
ends_found rule ss n [] g c e = sym (ap (λ o. after_all ss (ended_by o (unless_many n g.rows (standing [])))) e ∙ all_refuted ss c)
ends_found rule ss n (x ∷ xs) g c e = sym (ap (λ o. after_all ss (ended_by o (unless_many n g.rows (cond (step_fits x g.rows) (after_step (step_of x g.rows) (run rule (suc n) xs (gathered rule (eliminate_one x g.rows)))) too_great)))) e ∙ all_refuted ss c)

many_test : (k : ℕ) → 4096 < k → ltb 4096 k ≡ true
many_test k h = grind (arith, nat_tests)

few_test : (k : ℕ) → k ≤ 4096 → ltb 4096 k ≡ false
few_test k h = grind (arith, nat_tests)

pub ends_many : (rule : Rule) (ss : List Step) (n : ℕ) (xs : List ℕ) (g : Gathered) (k : ℕ) → g.found ≡ None → k ≡ length g.rows → 4096 < k → too_many n k ≡ after_all ss (run rule n xs g)
unfolding run
ends_many rule ss n [] g k e h l = ap (too_many n) h ∙ sym (ap₂ (λ o b. after_all ss (ended_by o (cond b (too_many n (length g.rows)) (standing [])))) e (ap (ltb 4096) (sym h) ∙ many_test k l) ∙ all_many ss n (length g.rows))
ends_many rule ss n (x ∷ xs) g k e h l = ap (too_many n) h ∙ sym (ap₂ (λ o b. after_all ss (ended_by o (cond b (too_many n (length g.rows)) (cond (step_fits x g.rows) (after_step (step_of x g.rows) (run rule (suc n) xs (gathered rule (eliminate_one x g.rows)))) too_great)))) e (ap (ltb 4096) (sym h) ∙ many_test k l) ∙ all_many ss n (length g.rows))

pub ends_standing : (rule : Rule) (ss : List Step) (n : ℕ) (xs : List ℕ) (g : Gathered) (k : ℕ) → xs ≡ [] → g.found ≡ None → k ≡ length g.rows → k ≤ 4096 → standing ss ≡ after_all ss (run rule n xs g)
unfolding run
ends_standing rule ss n xs g k m e h l = sym (ap (λ ys. after_all ss (run rule n ys g)) m ∙ ap₂ (λ o b. after_all ss (ended_by o (cond b (too_many n (length g.rows)) (standing [])))) e (ap (ltb 4096) (sym h) ∙ few_test k l) ∙ all_standing ss)

pub ends_great : (rule : Rule) (ss : List Step) (n : ℕ) (xs ys : List ℕ) (x : ℕ) (g : Gathered) (k : ℕ) → xs ≡ x ∷ ys → g.found ≡ None → k ≡ length g.rows → k ≤ 4096 → false ≡ step_fits x g.rows → too_great ≡ after_all ss (run rule n xs g)
unfolding run
ends_great rule ss n xs ys x g k m e h l f = sym (ap (λ zs. after_all ss (run rule n zs g)) m ∙ ap₂ (λ o b. after_all ss (ended_by o (cond b (too_many n (length g.rows)) (cond (step_fits x g.rows) (after_step (step_of x g.rows) (run rule (suc n) ys (gathered rule (eliminate_one x g.rows)))) too_great)))) e (ap (ltb 4096) (sym h) ∙ few_test k l) ∙ ap (λ b. after_all ss (cond b (after_step (step_of x g.rows) (run rule (suc n) ys (gathered rule (eliminate_one x g.rows)))) too_great)) (sym f) ∙ all_great ss)

abbrev make : Option Derived → List Derived → Gathered
make o rs = record { found = o; rows = rs }

pub goes_on : (rule : Rule) (ss now : List Step) (n : ℕ) (xs ys : List ℕ) (x : ℕ) (g h : Gathered) (s : Step) (k : ℕ) → xs ≡ x ∷ ys → g.found ≡ None → k ≡ length g.rows → k ≤ 4096 → true ≡ step_fits x g.rows → s ≡ step_of x g.rows → h.found ≡ contradiction (eliminate_one x g.rows) → h.rows ≡ tidied_by rule (eliminate_one x g.rows) → now ≡ ss ++ s ∷ [] → after_all now (run rule (n + 1) ys h) ≡ after_all ss (run rule n xs g)
unfolding run
goes_on rule ss now n xs ys x g h s k m e a l f t p q r =
    ap₂ (λ (us : List Step) (j : ℕ). after_all us (run rule j ys h)) r (next n)
    ∙ all_push ss s (run rule (suc n) ys h)
    ∙ ap₂ (λ (u : Step) (i : Gathered). after_all ss (after_step u (run rule (suc n) ys i))) t (ap₂ make p q)
    ∙ sym (ap (λ zs. after_all ss (run rule n zs g)) m ∙ ap₂ (λ o b. after_all ss (ended_by o (cond b (too_many n (length g.rows)) (cond (step_fits x g.rows) (after_step (step_of x g.rows) (run rule (suc n) ys (gathered rule (eliminate_one x g.rows)))) too_great)))) e (ap (ltb 4096) (sym a) ∙ few_test k l) ∙ ap (λ b. after_all ss (cond b (after_step (step_of x g.rows) (run rule (suc n) ys (gathered rule (eliminate_one x g.rows)))) too_great)) (sym f))
  where
    next : (n : ℕ) → n + 1 ≡ suc n
    next n = omega arith

pub found_next : (rule : Rule) (ss : List Step) (n : ℕ) (xs ys : List ℕ) (x : ℕ) (g : Gathered) (k : ℕ) (c : Derived) → xs ≡ x ∷ ys → g.found ≡ None → k ≡ length g.rows → k ≤ 4096 → true ≡ step_fits x g.rows → Some c ≡ contradiction (eliminate_one x g.rows) → refuted c ≡ after_all ss (run rule n xs g)
found_next rule ss n xs ys x g k c m e a l f h = ends_found rule (ss ++ step_of x g.rows ∷ []) (n + 1) ys (gathered rule (eliminate_one x g.rows)) c (sym h) ∙ goes_on rule ss (ss ++ step_of x g.rows ∷ []) n xs ys x g (gathered rule (eliminate_one x g.rows)) (step_of x g.rows) k m e a l f refl refl refl refl

pub many_next : (rule : Rule) (ss : List Step) (n : ℕ) (xs ys : List ℕ) (x : ℕ) (g : Gathered) (k c : ℕ) → xs ≡ x ∷ ys → g.found ≡ None → k ≡ length g.rows → k ≤ 4096 → true ≡ step_fits x g.rows → None ≡ contradiction (eliminate_one x g.rows) → c ≡ length (tidied_by rule (eliminate_one x g.rows)) → 4096 < c → too_many (n + 1) c ≡ after_all ss (run rule n xs g)
many_next rule ss n xs ys x g k c m e a l f h i j = ends_many rule (ss ++ step_of x g.rows ∷ []) (n + 1) ys (gathered rule (eliminate_one x g.rows)) c (sym h) i j ∙ goes_on rule ss (ss ++ step_of x g.rows ∷ []) n xs ys x g (gathered rule (eliminate_one x g.rows)) (step_of x g.rows) k m e a l f refl refl refl refl

pub ends_next : (rule : Rule) (ss : List Step) (n : ℕ) (xs ys : List ℕ) (x : ℕ) (g : Gathered) (k c : ℕ) (o : Option Derived) (r : Outcome) → xs ≡ x ∷ ys → g.found ≡ None → k ≡ length g.rows → k ≤ 4096 → (true ≡ step_fits x g.rows) × (o ≡ contradiction (eliminate_one x g.rows)) × (c ≡ length (tidied_by rule (eliminate_one x g.rows))) × (4096 < c) → ((d : Derived) → o ≡ Some d → r ≡ refuted d) → (o ≡ None → r ≡ too_many (n + 1) c) → r ≡ after_all ss (run rule n xs g)
ends_next rule ss n xs ys x g k c None r m e a l h f t = t refl ∙ many_next rule ss n xs ys x g k c m e a l h.0 h.1 h.2 h.3
ends_next rule ss n xs ys x g k c (Some d) r m e a l h f t = f d refl ∙ found_next rule ss n xs ys x g k d m e a l h.0 h.1

pub none_left : (xs : List ℕ) → length xs ≡ 0 → xs ≡ []
none_left [] e = refl
none_left (x ∷ xs) e = absurd (omega (arith, e))

pub ok_same : {A B E : Type 0} (r : Result A E) (f : A → B) (x y : B) → x ≡ y → IfOk r (λ o. f o ≡ x) → IfOk r (λ o. f o ≡ y)
ok_same (Ok a) f x y e h = h ∙ e
ok_same (Err a) f x y e h = tt
