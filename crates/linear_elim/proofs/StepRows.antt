-- The rows of the steps satisfy the invariant of the program.
use Rattle.std.proofs.Common.{◌≡◌, ℕ, List, [], ◌∷◌, length, refl, sym, subst, Bool, true, false, cond, ltb}
use Rattle.std.specs.Prelude.{Option, Some, None}
use Prim.Native.Nat.{suc}
use Rattle.std.specs.List.{All}
use Rattle.std.proofs.lemmas.List.Elements.{All-nil, All-cons, All-filter}
use Rattle.linear_rows.specs.Row.{Row, IsRow}
use Rattle.linear_elim.specs.Joins.{Derived}
use Rattle.linear_elim.specs.internal.DerivedRows.{IsDerived}
use Rattle.linear_elim.specs.Steps.{eliminate_one, contradiction, step_fits}
use Rattle.linear_elim.specs.Elimination.{Step, step_of, Rule, tidied_by, gathered, after_step, ended_by, unless_many, run, start, elimination_by}
use Rattle.linear_elim.specs.Elimination.Outcome.{standing, too_many, too_great}
use Rattle.linear_elim.specs.internal.Picks.{IsDerivedStep}
use Rattle.linear_elim.proofs.Solvability.{after-standing}
use Rattle.linear_elim.proofs.KeptRows.{step-derived}
use Rattle.linear_elim.proofs.FirstRows.{first-derived}

run_derived : (rule : Rule) (n : ℕ) (xs : List ℕ) (rows : List Derived) (ss : List Step) → run rule n xs (gathered rule rows) ≡ standing ss → All IsDerived (tidied_by rule rows) → All IsDerivedStep ss
unfolding run
run_derived rule n [] rows ss e h = go (contradiction rows) e
  where
    many : (b : Bool) → cond b (too_many n (length (tidied_by rule rows))) (standing []) ≡ standing ss → All IsDerivedStep ss
    many true e = absurd (cc)
    many false e = let s : [] ≡ ss = cc in subst (All IsDerivedStep) s (All-nil _)

    go : (o : Option Derived) → ended_by o (unless_many n (tidied_by rule rows) (standing [])) ≡ standing ss → All IsDerivedStep ss
    go None e = many (ltb 4096 (length (tidied_by rule rows))) e
    go (Some d) e = absurd (cc)
run_derived rule n (x ∷ xs) rows ss e h = go (λ f ts k. run_derived rule (suc n) xs (eliminate_one x (tidied_by rule rows)) ts k (step-derived rule x (tidied_by rule rows) h (sym f))) (contradiction rows) e
  where
    many : (step_fits x (tidied_by rule rows) ≡ true → (ts : List Step) → run rule (suc n) xs (gathered rule (eliminate_one x (tidied_by rule rows))) ≡ standing ts → All IsDerivedStep ts) → (b f : Bool) → step_fits x (tidied_by rule rows) ≡ f → cond b (too_many n (length (tidied_by rule rows))) (cond f (after_step (step_of x (tidied_by rule rows)) (run rule (suc n) xs (gathered rule (eliminate_one x (tidied_by rule rows))))) too_great) ≡ standing ss → All IsDerivedStep ss
    many ih true f k e = absurd (cc)
    many ih false true k e = let a = after-standing _ _ ss e in subst (All IsDerivedStep) (sym a.2) (All-cons IsDerivedStep (step_of x (tidied_by rule rows)) a.0 (record { lows = All-filter _ IsDerived (tidied_by rule rows) h; ups = All-filter _ IsDerived (tidied_by rule rows) h }) (ih k a.0 a.1))
    many ih false false k e = absurd (cc)

    go : (step_fits x (tidied_by rule rows) ≡ true → (ts : List Step) → run rule (suc n) xs (gathered rule (eliminate_one x (tidied_by rule rows))) ≡ standing ts → All IsDerivedStep ts) → (o : Option Derived) → ended_by o (unless_many n (tidied_by rule rows) (cond (step_fits x (tidied_by rule rows)) (after_step (step_of x (tidied_by rule rows)) (run rule (suc n) xs (gathered rule (eliminate_one x (tidied_by rule rows))))) too_great)) ≡ standing ss → All IsDerivedStep ss
    go ih None e = many ih (ltb 4096 (length (tidied_by rule rows))) (step_fits x (tidied_by rule rows)) refl e
    go ih (Some d) e = absurd (cc)

pub standing_derived : (rule : Rule) (order : List ℕ) (rows : List Row) (steps : List Step) → All IsRow rows → elimination_by rule order rows ≡ standing steps → All IsDerivedStep steps
standing_derived rule order rows steps h e = run_derived rule 0 order (start 0 rows) steps e (first-derived rule rows h)
