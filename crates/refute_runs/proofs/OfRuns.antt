-- The answers of a search are right for the runs.
use Rattle.std.proofs.Common.{◌≡◌, ◌<◌, ◌≤◌, ℕ, refl, sym, subst, ◌∙◌, arith, true, List, ◌⊎◌, inl, inr}
use Rattle.std.proofs.lemmas.Bool.{cases_lt}
use Rattle.std.specs.Prelude.{IfSome, Option, Some, None}
use Prim.Native.Nat.{zero, suc}
use Rattle.heyvl_num.proofs.exported.Exactness.{exact_sumᵛ_some}
use Rattle.heyvl_num.proofs.exported.Values.{<ᵛ-not, ≤ᵛ_trans}
use Rattle.heyvl_num.specs.ExactValues.{exact_sumᵛ}
use Rattle.heyvl_num.specs.ExtendedNumbers.{value_of}
use Rattle.heyvl_num.specs.Value.{Value, ◌≤ᵛ◌, ◌<ᵛ◌}
use Rattle.heylo_formula.specs.declared.values.Val.{Val}
use Rattle.heyvl_acts.specs.Acts.{TypedProcedure, procedure_at}
use Rattle.heyvl_acts.specs.Rules.{Each, MeetsRules}
use Rattle.quant_algebra.specs.ExactMeaning.{exact_value}
use Rattle.quant_algebra.specs.Laws.{ExactValuesAreMeant}
use Rattle.refute_runs.specs.RefutedAnswers.{GivesSums, IsDecided, IsRefutedAnswer, MayCome, Passes, StopsAt}
use Rattle.refute_runs.specs.ScriptedSums.{pre_in, scripted_sum}
use Rattle.refute_runs.specs.Shortages.{IsShort}
use Rattle.refute_runs.specs.SumsAfter.{IsAbove, IsSum, IsWithinBefore, Unrollings, together, unrolled_in}
use Rattle.refute_runs.specs.Violations.{NumbersAreOfRuns, ViolationIsOfRuns}
use Rattle.refute_runs.specs.declared.answers.Refuted.TheVariants.{Stopped, Violation, Within}
use Rattle.refute_runs.specs.declared.answers.Refuted.{Refuted}
use Rattle.refute_runs.proofs.Stops.{names_no_sums, steps_named}
use Rattle.run_laws.specs.Violations.{ViolationsRefute}
use Rattle.run_machine.specs.Bound.{IsState}
use Rattle.run_machine.specs.ConfigConditions.{ReachesPrograms}
use Rattle.run_machine.specs.Configurations.{begin}
use Rattle.run_machine.specs.StoredStep.{stored_begin}
use Rattle.run_machine.specs.declared.configurations.Decide.{Decide}
use Rattle.run_unroller.specs.ScriptTrees.{scripted}
use Rattle.run_unroller.specs.ScriptedGrowth.{ScriptedSumsGrow}
use Rattle.run_unroller.specs.Totals.{Totals}
use Rattle.run_unroller.specs.UnrollLaws.{UnrolledSumsAreMeant}
use Rattle.run_unroller.specs.Unrolling.{Unrolling}
use Rattle.run_unroller.specs.declared.answers.Unrolled.TheVariants as unrolled

-- A number that unrolling returns is the sum of its reward and post.
record ComesOf (u : Unrolling) (sum : Value) : Type 0 where
  totals : Totals
  is : u ≡ Unrolling.sums totals
  fits : exact_sumᵛ totals.reward totals.post ≡ Some sum

comes_of : (u : Unrolling) (sum : Value) → together u ≡ Some sum → ComesOf u sum
comes_of (Unrolling.sums t) sum e = record { totals = t; is = refl; fits = e }
comes_of (Unrolling.stopped cause step) sum e = absurd (cc)

gives : (u : Unrolling) (sum : Value) → together u ≡ Some sum → GivesSums u
gives (Unrolling.sums t) sum e = tt
gives (Unrolling.stopped cause step) sum e = absurd (cc)

same_bound : (a b : Value) → Some a ≡ Some b → a ≡ b
same_bound a b e = cc

module _ (sums : UnrolledSumsAreMeant) (grow : ScriptedSumsGrow) (values : ExactValuesAreMeant) (ps : List TypedProcedure) (p : ℕ) (rules : Each (MeetsRules ps) ps) (programs : ReachesPrograms ps p) (state : List Val) (typed : IsState (procedure_at ps p) state) (script : List Decide) where
  abbrev us : Unrollings
  us = unrolled_in ps p state script

  abbrev pre : Option Value
  pre = exact_value (procedure_at ps p).pre state

  sum_is : (s : ℕ) (sum : Value) → IsSum us s sum → sum ≡ scripted_sum ps p state script s
  sum_is s sum e =
      let h = comes_of (us s) sum e in
      exact_sumᵛ_some h.totals.reward h.totals.post sum (sym h.fits) ∙ sym (sums ps p rules programs state typed script s h.totals h.is).upper

  pre_is : (bound : Value) → pre ≡ Some bound → bound ≡ pre_in ps p state
  pre_is bound e = subst (λ o. IfSome o (λ x. x ≡ pre_in ps p state)) e (values (procedure_at ps p).pre state)

  grows : (s m : ℕ) (v w : Value) → s ≤ m → IsSum us s v → IsSum us m w → v ≤ᵛ w
  grows s m v w l a b = subst (λ x. x ≤ᵛ w) (sym (sum_is s v a)) (subst (λ x. scripted_sum ps p state script s ≤ᵛ x) (sym (sum_is m w b)) (grow ps p rules state typed script s m l))

  none_above : (s m : ℕ) (bound : Value) → s < m → IsWithinBefore us bound m → IsAbove us bound s → ⊥
  none_above s zero bound l before above = omega (arith, l)
  none_above s (suc m) bound l before above = <ᵛ-not bound above.0 above.1.1 (≤ᵛ_trans above.0 before.0 bound (grows s m above.0 before.0 (omega (arith, l)) above.1.0 before.1.0) before.1.1)

  pub decided : (n : ℕ) (answer : Refuted) → MayCome us pre n answer → ((s : ℕ) → s ≤ n → IsShort us pre s → ⊥) → IsDecided us pre n answer
  decided n (Violation s sum bound) h fit = record { steps = s; few = h.steps; bound = value_of bound; given = h.given; above = (value_of sum, (h.summed, h.above)) }
  decided n (Within sum bound) h fit = (none, gives (us n) (value_of sum) h.summed)
    where
      none : Passes us pre n → ⊥
      none k =
          let is : k.bound ≡ value_of bound = same_bound k.bound (value_of bound) (sym k.given ∙ h.given) in
          none_above k.steps (suc n) (value_of bound) (let l = k.few in omega (arith, l)) (value_of sum, (h.summed, h.within)) (subst (λ b. IsAbove us b k.steps) is k.above)
  decided n (Stopped s answer) (StopsAt.by_number few short same before) fit = absurd (fit s few short)
  decided n (Stopped s answer) (StopsAt.by_step bound one few names same given before) fit = (none, no_sums n few)
    where
      no_sums : (k : ℕ) → s ≤ k → GivesSums (us k) → ⊥
      no_sums k l g = names_no_sums (us s) s names (subst GivesSums ((steps_named ps p (stored_begin ps p state) script).stays s k l names) g)

      none : Passes us pre n → ⊥
      none k = go (cases_lt k.steps s)
        where
          above : IsAbove us bound k.steps
          above = subst (λ b. IsAbove us b k.steps) (same_bound k.bound bound (sym k.given ∙ given)) k.above

          go : (k.steps < s) ⊎ (s ≤ k.steps) → ⊥
          go (inl l) = none_above k.steps s bound l before above
          go (inr l) = no_sums k.steps l (gives (us k.steps) above.0 above.1.0)

  pub answers : (n : ℕ) (answer : Refuted) → MayCome us pre n answer → (pre ≡ None → answer ≡ Stopped 0 (unrolled.Bits 1)) → IsRefutedAnswer ps p state script n answer
  answers n answer h none = record { may = h; decided = decided n answer h; no_pre = none }

  stay : (k m : ℕ) (bound : Value) → k < m → pre ≡ Some bound → IsWithinBefore us bound m → scripted_sum ps p state script k ≤ᵛ pre_in ps p state
  stay k zero bound l given before = absurd (omega (arith, l))
  stay k (suc m) bound l given before =
      let last : scripted_sum ps p state script m ≤ᵛ pre_in ps p state = subst (λ v. v ≤ᵛ pre_in ps p state) (sum_is m before.0 before.1.0) (subst (λ v. before.0 ≤ᵛ v) (pre_is bound given) before.1.1) in
      ≤ᵛ_trans _ _ _ (grow ps p rules state typed script k m (omega (arith, l))) last

  is_above : (s : ℕ) (sum bound : Value) → IsSum us s sum → pre ≡ Some bound → bound <ᵛ sum → pre_in ps p state <ᵛ scripted_sum ps p state script s
  is_above s sum bound summed given above = subst (λ v. pre_in ps p state <ᵛ v) (sum_is s sum summed) (subst (λ v. v <ᵛ sum) (pre_is bound given) above)

  pub violation : ViolationsRefute → (procedure_at ps p).co ≡ true → (n : ℕ) (answer : Refuted) → MayCome us pre n answer → ViolationIsOfRuns ps p state script answer
  violation refute co n (Violation s sum bound) h =
      let above = is_above s (value_of sum) (value_of bound) h.summed h.given h.above in
      record {
        above = above;
        fewer = λ k l. stay k s (value_of bound) l h.given h.before;
        refutes = λ qs e b. refute ps qs e p co state typed s (scripted ps script s 0 (begin ps p state)) above b;
      }
  violation refute co n (Within sum bound) h = tt
  violation refute co n (Stopped s answer) h = tt

  pub numbers : (n : ℕ) (answer : Refuted) → MayCome us pre n answer → NumbersAreOfRuns ps p state script n answer
  numbers n (Violation s sum bound) h = record { is_sum = sum_is s (value_of sum) h.summed; is_pre = pre_is (value_of bound) h.given }
  numbers n (Within sum bound) h = (record { is_sum = sum_is n (value_of sum) h.summed; is_pre = pre_is (value_of bound) h.given }, λ k l. stay k (suc n) (value_of bound) (omega (arith, l)) h.given (value_of sum, (h.summed, h.within)))
  numbers n (Stopped s answer) h = tt
