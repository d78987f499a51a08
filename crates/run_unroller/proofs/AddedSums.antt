-- Sums of runs, one run after another.
use Rattle.std.proofs.Common.{◌≡◌, ℕ, ◌+◌, ◌<◌, refl, ap, sym, ◌∙◌, ◌-◌, arith, List, [], ◌∷◌, ◌++◌, get_or, length, drop}
use Rattle.std.proofs.lemmas.List.{at_drop_more}
use Rattle.std.specs.Prelude.{Option, Some, None}
use Prim.Native.Nat.{zero, suc}
use Rattle.heyvl_num.specs.Rational.{Rational}
use Rattle.heyvl_num.specs.Value.{Value}
use Rattle.heyvl_num.specs.Exact.{exact_sum, exact_product}
use Rattle.quant_algebra.specs.ExactOperators.{and_then}
use Rattle.run_machine.specs.declared.configurations.Config as C
use Rattle.run_machine.specs.Names.{Numbered, Stored}
use Rattle.run_unroller.specs.RunLists.{RunList}
use Rattle.run_machine.specs.Replies.{stored_outcome, stored_outcomes}
use Rattle.run_unroller.specs.Totals.{added, all_turns, turns_total, added_fractions, added_weights, and_one, and_one_fraction, ended, if_ended, if_running, running}

pub added-none : (f : Stored → Option Value) (xs : RunList) → added f None xs ≡ None
added-none f [] = refl
added-none f (x ∷ xs) = added-none f xs

pub fractions-none : (f : Stored → Rational) (xs : RunList) → added_fractions f None xs ≡ None
fractions-none f [] = refl
fractions-none f (x ∷ xs) = fractions-none f xs

pub weights-none : (xs : RunList) → added_weights None xs ≡ None
weights-none [] = refl
weights-none (x ∷ xs) = weights-none xs

pub at_next : {B : Type 0} (F : RunList → B) (runs : List (Rational × C.Config)) (i : ℕ) (r : Rational × C.Config) → i < length runs → r ≡ get_or runs i r → F (stored_outcomes (drop i runs)) ≡ F (stored_outcome r ∷ stored_outcomes (drop (i + 1) runs))
at_next F runs i r lt is = at_drop_more (λ l. F (stored_outcomes l)) runs i r lt ∙ ap (λ x. F (stored_outcome x ∷ stored_outcomes (drop (i + 1) runs))) (sym is)

pub value_next : (f : Stored → Option Value) (so_far now : Option Value) (runs : List (Rational × C.Config)) (i : ℕ) (r : Rational × C.Config) → i < length runs → r ≡ get_or runs i r → now ≡ and_one so_far r.0 (f (stored_outcome r).1) → added f so_far (stored_outcomes (drop i runs)) ≡ added f now (stored_outcomes (drop (i + 1) runs))
value_next f so_far now runs i r lt is e = at_next (added f so_far) runs i r lt is ∙ ap (λ o. added f o (stored_outcomes (drop (i + 1) runs))) (sym e)

pub fraction_next : (f : Stored → Rational) (so_far now : Option Rational) (runs : List (Rational × C.Config)) (i : ℕ) (r : Rational × C.Config) → i < length runs → r ≡ get_or runs i r → now ≡ and_one_fraction so_far r.0 (f (stored_outcome r).1) → added_fractions f so_far (stored_outcomes (drop i runs)) ≡ added_fractions f now (stored_outcomes (drop (i + 1) runs))
fraction_next f so_far now runs i r lt is e = at_next (added_fractions f so_far) runs i r lt is ∙ ap (λ o. added_fractions f o (stored_outcomes (drop (i + 1) runs))) (sym e)

one_ended : (f : Stored → Option Value) (so_far : Option Value) (x : Rational × Stored) (xs : RunList) (is : List Numbered) → added f so_far (if_ended is x xs) ≡ added f (added f so_far (if_ended is x [])) xs
one_ended f so_far x xs [] = refl
one_ended f so_far x xs (i ∷ is) = refl

pub ended_next : (f : Stored → Option Value) (so_far now : Option Value) (runs : List (Rational × C.Config)) (i : ℕ) (r : Rational × C.Config) → i < length runs → r ≡ get_or runs i r → now ≡ added f so_far (ended (stored_outcome r ∷ [])) → added f so_far (ended (stored_outcomes (drop i runs))) ≡ added f now (ended (stored_outcomes (drop (i + 1) runs)))
ended_next f so_far now runs i r lt is e =
    at_next (λ l. added f so_far (ended l)) runs i r lt is
    ∙ one_ended f so_far (stored_outcome r) (ended (stored_outcomes (drop (i + 1) runs))) r.1.items.items
    ∙ ap (λ o. added f o (ended (stored_outcomes (drop (i + 1) runs)))) (sym e)

one_running : (so_far : Option Rational) (x : Rational × Stored) (xs : RunList) (is : List Numbered) → added_weights so_far (if_running is x xs) ≡ added_weights (added_weights so_far (if_running is x [])) xs
one_running so_far x xs [] = refl
one_running so_far x xs (i ∷ is) = refl

pub running_next : (so_far now : Option Rational) (runs : List (Rational × C.Config)) (i : ℕ) (r : Rational × C.Config) → i < length runs → r ≡ get_or runs i r → now ≡ added_weights so_far (running (stored_outcome r ∷ [])) → added_weights so_far (running (stored_outcomes (drop i runs))) ≡ added_weights now (running (stored_outcomes (drop (i + 1) runs)))
running_next so_far now runs i r lt is e =
    at_next (λ l. added_weights so_far (running l)) runs i r lt is
    ∙ one_running so_far (stored_outcome r) (running (stored_outcomes (drop (i + 1) runs))) r.1.items.items
    ∙ ap (λ o. added_weights o (running (stored_outcomes (drop (i + 1) runs)))) (sym e)

pub fraction_one : (s w v t : Rational) (o : Option Rational) → t ≡ v → o ≡ exact_product w t → and_then o (λ x. exact_sum s x) ≡ and_one_fraction (Some s) w v
fraction_one s w v t o e h = ap (λ p. and_then p (λ x. exact_sum s x)) (h ∙ ap (exact_product w) e)

stays_none : (rs : RunList) (m k : ℕ) → all_turns m rs ≡ None → all_turns (m + k) rs ≡ None
stays_none rs m zero h = ap (λ n. all_turns n rs) (let e : m + 0 ≡ m = omega arith in e) ∙ h
stays_none rs m (suc k) h =
    ap (λ n. all_turns n rs) (let e : m + suc k ≡ suc (m + k) = omega arith in e)
    ∙ ap (λ o. and_then o (λ ts. and_then (turns_total (suc (m + k)) rs) (λ t. Some (ts ++ (t ∷ []))))) (stays_none rs m k h)

pub no_sum : (rs : RunList) (ts : List Rational) (m n : ℕ) → all_turns m rs ≡ Some ts → None ≡ turns_total (suc m) rs → m < n → None ≡ all_turns n rs
no_sum rs ts m n h e l =
    let next : all_turns (suc m) rs ≡ None = ap (λ o. and_then o (λ us. and_then (turns_total (suc m) rs) (λ t. Some (us ++ (t ∷ []))))) h ∙ ap (λ o. and_then o (λ t. Some (ts ++ (t ∷ [])))) (sym e) in
    sym (ap (λ k. all_turns k rs) (let h : n ≡ suc m + (n - suc m) = omega (arith, l) in h) ∙ stays_none rs (suc m) (n - suc m) next)
