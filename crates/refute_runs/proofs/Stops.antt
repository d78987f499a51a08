-- A stopped step is named by the results after every number of steps from its own on, and by none
-- before.
use Rattle.std.proofs.Common.{◌≡◌, ◌<◌, ◌≤◌, ◌+◌, ◌-◌, ℕ, refl, sym, ap, subst, ◌∙◌, arith, List}
use Rattle.std.specs.Option.{option_or}
use Rattle.std.specs.Prelude.{Option, Some, None}
use Prim.Native.Nat.{zero, suc}
use Rattle.heyvl_acts.specs.Acts.{TypedProcedure, procedure_at}
use Rattle.refute_runs.specs.RefutedAnswers.{GivesSums}
use Rattle.refute_runs.specs.SumsAfter.{NamesStep, Unrollings, together, unrolled_from}
use Rattle.run_machine.specs.Names.{Stored}
use Rattle.run_machine.specs.declared.configurations.Decide.{Decide}
use Rattle.run_unroller.specs.Causes.{at_step, first_stop, step_cause}
use Rattle.run_unroller.specs.RunLists.{after, begun}
use Rattle.run_unroller.specs.Totals.{Totals, totals}
use Rattle.run_unroller.specs.Unrolling.{Unrolling, stop_or, sums_or, unrolling_of}
use Rattle.run_unroller.specs.declared.answers.Unrolled.TheVariants as unrolled

some_is : {A : Type 0} (x y : A) → Some x ≡ Some y → x ≡ y
some_is x y e = cc

cases_option : {A : Type 0} (P : Option A → Type 0) → ((a : A) → P (Some a)) → P None → (o : Option A) → P o
cases_option P some none (Some a) = some a
cases_option P some none None = none

step_of : {C : Type 0} (c : C) (n : ℕ) (x : C × ℕ) → Some (c, n) ≡ Some x → x.1 ≡ n
step_of c n x e = ap (λ y. y.1) (some_is x (c, n) (sym e))

no_step : {C : Type 0} (n : ℕ) (x : C × ℕ) → None ≡ Some x → x.1 ≡ n
no_step n x e = absurd (cc)

-- The names of stopped steps: from a stopped step on the result stays the same; a step up to n that
-- is named after n steps is stopped after as many steps as its number; and a step after n that is
-- named is that of adding the sums.
pub record IsNamed (us : Unrollings) : Type 0 where
  pub stays : (s n : ℕ) → s ≤ n → NamesStep (us s) s → us n ≡ us s
  pub first : (n s : ℕ) → s ≤ n → NamesStep (us n) s → (1 ≤ s) × (us s ≡ us n)
  pub added : (n s : ℕ) → n < s → NamesStep (us n) s → us n ≡ unrolling_of (unrolled.Bits (n + 1))

-- Stops that are found one step after another: the first one stays, and a new one is that of its
-- step.
module _ {C : Type 0} (f : ℕ → Option (C × ℕ)) (none : f 0 ≡ None) (on : (n : ℕ) (x : C × ℕ) → f n ≡ Some x → f (suc n) ≡ Some x) (new : (n : ℕ) (x : C × ℕ) → f n ≡ None → f (suc n) ≡ Some x → x.1 ≡ suc n) where
  stays : (x : C × ℕ) (m k : ℕ) → f m ≡ Some x → f (m + k) ≡ Some x
  stays x m zero h = ap f (let e : m + 0 ≡ m = omega arith in e) ∙ h
  stays x m (suc k) h = ap f (let e : m + suc k ≡ suc (m + k) = omega arith in e) ∙ on (m + k) x (stays x m k h)

  first_of : (n : ℕ) (x : C × ℕ) → f n ≡ Some x → (1 ≤ x.1) × (x.1 ≤ n) × (f x.1 ≡ Some x)
  first_of zero x e = absurd (let no : None ≡ Some x = sym none ∙ e in cc)
  first_of (suc n) x e = go (λ h. first_of n x h) (f n) refl
    where
      go : (f n ≡ Some x → (1 ≤ x.1) × (x.1 ≤ n) × (f x.1 ≡ Some x)) → (o : Option (C × ℕ)) → f n ≡ o → (1 ≤ x.1) × (x.1 ≤ suc n) × (f x.1 ≡ Some x)
      go before (Some y) h =
          let is : y ≡ x = some_is y x (sym (on n y h) ∙ e) in
          let ih = before (h ∙ ap Some is) in
          let few = ih.1 in
          (ih.0, omega (arith, few), ih.2)
      go before None h = let step : x.1 ≡ suc n = new n x h e in (omega (arith, step), omega (arith, step), ap f step ∙ e)

  -- The result after n steps: the first stop, or possibly a stop at the step after the last.
  module _ (us : ℕ → Unrolling) (stop : C × ℕ → Unrolling) (given : (n : ℕ) (x : C × ℕ) → f n ≡ Some x → us n ≡ stop x) (at : (x : C × ℕ) (s : ℕ) → NamesStep (stop x) s → x.1 ≡ s) (free : (n s : ℕ) → f n ≡ None → NamesStep (us n) s → (s ≡ n + 1) × (us n ≡ unrolling_of (unrolled.Bits (n + 1)))) where
    stays_given : (s n : ℕ) → s ≤ n → NamesStep (us s) s → us n ≡ us s
    stays_given s n l names = go (f s) refl
      where
        go : (o : Option (C × ℕ)) → f s ≡ o → us n ≡ us s
        go (Some x) h = given n x (ap f (let e : n ≡ s + (n - s) = omega (arith, l) in e) ∙ stays x s (n - s) h) ∙ sym (given s x h)
        go None h = let e = (free s s h names).0 in absurd (omega (arith, e))

    first_given : (n s : ℕ) → s ≤ n → NamesStep (us n) s → (1 ≤ s) × (us s ≡ us n)
    first_given n s l names = go (f n) refl
      where
        go : (o : Option (C × ℕ)) → f n ≡ o → (1 ≤ s) × (us s ≡ us n)
        go (Some x) h =
            let is : x.1 ≡ s = at x s (subst (λ u. NamesStep u s) (given n x h) names) in
            let first = first_of n x h in
            let one = first.0 in
            (omega (arith, one, is), given s x (ap f (sym is) ∙ first.2) ∙ sym (given n x h))
        go None h = let e = (free n s h names).0 in absurd (omega (arith, e, l))

    added_given : (n s : ℕ) → n < s → NamesStep (us n) s → us n ≡ unrolling_of (unrolled.Bits (n + 1))
    added_given n s l names = go (f n) refl
      where
        go : (o : Option (C × ℕ)) → f n ≡ o → us n ≡ unrolling_of (unrolled.Bits (n + 1))
        go (Some x) h =
            let is : x.1 ≡ s = at x s (subst (λ u. NamesStep u s) (given n x h) names) in
            let few = (first_of n x h).1 in
            absurd (omega (arith, few, is, l))
        go None h = (free n s h names).1

    is_named : IsNamed us
    is_named = record { stays = stays_given; first = first_given; added = added_given }

adding : (n s : ℕ) (o : Option Totals) → NamesStep (sums_or (n + 1) o) s → (s ≡ n + 1) × (sums_or (n + 1) o ≡ unrolling_of (unrolled.Bits (n + 1)))
adding n s (Some t) names = absurd names
adding n s None names = (sym names, refl)

module _ (ps : List TypedProcedure) (p : ℕ) (first : Stored) (script : List Decide) where
  abbrev sums_of : ℕ → Unrolling
  sums_of n = sums_or (n + 1) (totals (procedure_at ps p) (after ps script n (begun first)))

  pub steps_named : IsNamed (unrolled_from ps p first script)
  steps_named =
      is_named (λ n. first_stop ps script n (begun first)) refl
      (λ n x e. ap (λ o. option_or o (at_step (suc n) (step_cause ps script (after ps script n (begun first))))) e)
      (λ n x none e. cases_option (λ o. at_step (suc n) o ≡ Some x → x.1 ≡ suc n) (λ c h. step_of c (suc n) x h) (λ h. no_step (suc n) x h) (step_cause ps script (after ps script n (begun first))) (sym (ap (λ o. option_or o (at_step (suc n) (step_cause ps script (after ps script n (begun first))))) none) ∙ e))
      (unrolled_from ps p first script) (λ x. Unrolling.stopped x.0 x.1)
      (λ n x e. ap (λ o. stop_or o (sums_of n)) e)
      (λ x s names. names)
      (λ n s e names.
      let is : unrolled_from ps p first script n ≡ sums_of n = ap (λ o. stop_or o (sums_of n)) e in
      let h = adding n s (totals (procedure_at ps p) (after ps script n (begun first))) (subst (λ u. NamesStep u s) is names) in
      (h.0, is ∙ h.1))

pub names_none : (u : Unrolling) (s : ℕ) → NamesStep u s → together u ≡ None
names_none (Unrolling.sums t) s names = absurd names
names_none (Unrolling.stopped cause step) s names = refl

pub names_no_sums : (u : Unrolling) (s : ℕ) → NamesStep u s → GivesSums u → ⊥
names_no_sums (Unrolling.sums t) s names sums = names
names_no_sums (Unrolling.stopped cause step) s names sums = sums
