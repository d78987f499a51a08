-- Results of comparing one sum, and the answers of a search from them.
use Rattle.std.proofs.Common.{◌≡◌, ◌<◌, ◌≤◌, ◌+◌, ◌-◌, ◌/◌, ℕ, refl, sym, ap, subst, ◌∙◌, arith, ◌⊎◌, inl, inr}
use Rattle.std.proofs.lemmas.Bool.{cases_lt}
use Rattle.std.specs.Prelude.{Some, min}
use Rattle.std.specs.declared.cmp.Ordering.{Ordering}
use Rattle.std.specs.declared.cmp.Ordering.TheVariants.{Less, Equal, Greater}
use Rattle.heyvl_num.proofs.exported.Exactness.{orderᵛ_equal, orderᵛ_greater, orderᵛ_less}
use Rattle.heyvl_num.proofs.exported.Values.{<ᵛ-≤ᵛ, ≤ᵛ_refl}
use Rattle.heyvl_num.specs.ExactValues.{exact_orderᵛ, exact_sumᵛ}
use Rattle.heyvl_num.specs.ExtendedNumbers.{value_of}
use Rattle.heyvl_num.specs.Value.{Value, ◌≤ᵛ◌, ◌<ᵛ◌}
use Rattle.heyvl_num.specs.declared.extended_numbers.Ext.{Ext}
use Rattle.refute_runs.specs.RefutedAnswers.{MayCome, StopsAt}
use Rattle.refute_runs.specs.Shortages.IsShort.{final_adding}
use Rattle.refute_runs.specs.Shortages.{IsShort}
use Rattle.refute_runs.specs.SumsAfter.{IsSum, IsWithinBefore, NamesStep, Unrollings, together}
use Rattle.refute_runs.specs.declared.answers.Refuted.TheVariants.{Stopped, Violation, Within}
use Rattle.refute_runs.specs.declared.answers.Refuted.{Refuted}
use Rattle.refute_runs.specs.internal.Probes.{EndsAt, IsBarred, IsLeast}
use Rattle.refute_runs.proofs.Stops.{IsNamed, names_none}
use Rattle.run_unroller.specs.Totals.{Totals}
use Rattle.run_unroller.specs.Unrolling.{Unrolling, unrolling_of}
use Rattle.run_unroller.specs.declared.answers.Unrolled.{Unrolled}
use Rattle.run_unroller.specs.declared.answers.Unrolled.TheVariants as unrolled

-- ---- The sum after n steps

pub above_less : (x y : Value) (o : Ordering) → Some o ≡ exact_orderᵛ x y → o ≡ Less → x <ᵛ y
above_less x y o e f = record { holds = orderᵛ_less x y o e f }

pub within_equal : (x y : Value) (o : Ordering) → Some o ≡ exact_orderᵛ x y → o ≡ Equal → y ≤ᵛ x
within_equal x y o e f = subst (λ z. z ≤ᵛ x) (orderᵛ_equal x y o e f) (≤ᵛ_refl x)

pub within_greater : (x y : Value) (o : Ordering) → Some o ≡ exact_orderᵛ x y → o ≡ Greater → y ≤ᵛ x
within_greater x y o e f = <ᵛ-≤ᵛ y x (record { holds = orderᵛ_greater x y o e f })

pub sum_given : (us : Unrollings) (n : ℕ) (t : Totals) (v : Value) → us n ≡ Unrolling.sums t → Some v ≡ exact_sumᵛ t.reward t.post → IsSum us n v
sum_given us n t v e h = ap together e ∙ sym h

pub above_ends : (us : Unrollings) (pre sum : Ext) (n : ℕ) → IsSum us n (value_of sum) → value_of pre <ᵛ value_of sum → EndsAt us (value_of pre) n n (Violation n sum pre)
above_ends us pre sum n summed above = record { few = omega arith; candidate = (refl, ((summed, above), refl)); empty = λ k l m. absurd (omega (arith, l, m)) }

pub short_ends : (us : Unrollings) (bound : Value) (n : ℕ) (answer : Unrolled) → IsShort us (Some bound) n → unrolling_of answer ≡ unrolling_of (unrolled.Bits (n + 1)) → EndsAt us bound n n (Stopped n answer)
short_ends us bound n answer short is = record { few = omega arith; candidate = (refl, IsBarred.by_number short is); empty = λ k l m. absurd (omega (arith, l, m)) }

module _ (us : Unrollings) (named : IsNamed us) (bound : Value) where
  step_ends : (n s : ℕ) (answer : Unrolled) → s ≤ n → NamesStep (unrolling_of answer) s → unrolling_of answer ≡ us n → EndsAt us bound n s (Stopped s answer)
  step_ends n s answer few names given =
      let at = named.first n s few (subst (λ u. NamesStep u s) given names) in
      let first : NamesStep (us s) s = subst (λ u. NamesStep u s) (given ∙ sym at.1) names in
      record {
        few = few;
        candidate = (refl, IsBarred.by_step at.0 first (given ∙ sym at.1));
        empty = λ k l m. ap together (named.stays s k l first) ∙ names_none (us s) s first;
      }

  adding_ends : (n s : ℕ) (answer : Unrolled) → n < s → NamesStep (unrolling_of answer) s → unrolling_of answer ≡ us n → EndsAt us bound n n (Stopped n answer)
  adding_ends n s answer more names given =
      let bits : us n ≡ unrolling_of (unrolled.Bits (n + 1)) = named.added n s more (subst (λ u. NamesStep u s) given names) in
      short_ends us bound n answer (final_adding bits) (given ∙ bits)

  pub stop_ends : (n s : ℕ) (answer : Unrolled) → NamesStep (unrolling_of answer) s → unrolling_of answer ≡ us n → EndsAt us bound n (min s n) (Stopped (min s n) answer)
  stop_ends n s answer names given = go (cases_lt n s)
    where
      go : (n < s) ⊎ (s ≤ n) → EndsAt us bound n (min s n) (Stopped (min s n) answer)
      go (inl l) = subst (λ k. EndsAt us bound n k (Stopped k answer)) (let e : n ≡ min s n = omega (arith, l) in e) (adding_ends n s answer l names given)
      go (inr l) = subst (λ k. EndsAt us bound n k (Stopped k answer)) (let e : s ≡ min s n = omega (arith, l) in e) (step_ends n s answer l names given)

pub middle_within : (low high : ℕ) → low < high → (low ≤ low + (high - low) / 2) × (low + (high - low) / 2 < high)
middle_within low high l = (omega (arith, l), omega (arith, l))

pub comes : (us : Unrollings) (bound : Value) (m n : ℕ) (answer : Refuted) → IsLeast us bound m answer → m ≤ n → MayCome us (Some bound) n answer
comes us bound m n (Violation s sum b) h l =
    let is = h.candidate.0 in
    let few = h.few in
    record {
      steps = omega (arith, is, few, l);
      given = ap Some (sym h.candidate.1.1);
      summed = subst (λ k. together (us k) ≡ Some (value_of sum)) (sym is) h.candidate.1.0.0;
      above = rw h.candidate.1.1 h.candidate.1.0.1;
      before = rw h.candidate.1.1 (subst (IsWithinBefore us bound) (sym is) h.before);
    }
comes us bound m n (Within sum b) h l = absurd h.candidate
comes us bound m n (Stopped s answer) h l = go (subst (λ k. IsBarred us bound k (unrolling_of answer)) (sym is) h.candidate.1)
  where
    is : s ≡ h.steps
    is = h.candidate.0

    few : s ≤ n
    few = let k = h.few in let e = is in omega (arith, k, e, l)

    one_bound : (b : Value) → Some bound ≡ Some b → bound ≡ b
    one_bound b e = cc

    before : IsWithinBefore us bound s
    before = subst (IsWithinBefore us bound) (sym is) h.before

    go : IsBarred us bound s (unrolling_of answer) → StopsAt us (Some bound) n s (unrolling_of answer)
    go (IsBarred.by_step one names same) = StopsAt.by_step bound one few names same refl before
    go (IsBarred.by_number short same) = StopsAt.by_number few short same (λ b e. subst (λ v. IsWithinBefore us v s) (one_bound b e) before)
