-- Worked searches, computed by evaluating the definitions: three payments of 1, and the geometric
-- loop with a pre of 1/2.
use Rattle.std.proofs.Common.{◌≡◌, ◌∙◌, ℕ, refl, sym, ap, subst, Bool, true, false, List, [], ◌∷◌, Some, None, pos, map, arith}
use Rattle.std.specs.Prelude.{ℤ, Option, is_some, option_map}
use Rattle.heyvl_num.specs.Exact.{exact_sum, sum_fits, exact_product, product_fits, exact_order, order_fits}
use Rattle.heyvl_num.specs.ExactValues.{exact_orderᵛ}
use Rattle.heyvl_num.specs.Gcd.{gcd, gcd_steps}
use Rattle.heyvl_num.specs.Rational.{ratio, zeroʳ, oneʳ, halfʳ, leqʳ, compareʳ, ◌+ʳ◌, ◌*ʳ◌, ◌-ʳ◌}
use Rattle.heyvl_num.specs.Value.Value.{finite, infinite}
use Rattle.heyvl_num.specs.Value.{Value, zeroᵛ, oneᵛ, ◌+ᵛ◌, ◌*ᵛ◌, infinite_times, is_zeroʳ, leqᵛ, ◌≤ᵛ◌}
use Rattle.heyvl_num.specs.WeightedSums.{scaled, joined}
use Rattle.heyvl_places.specs.declared.spans.Span.{Span}
use Rattle.heylo_formula.specs.Formula.{Form, Cond, Term}
use Rattle.heylo_formula.specs.declared.types.Ty.{Ty}
use Rattle.heylo_formula.specs.declared.values.Val.TheVariants.{Truth, Num}
use Rattle.heylo_formula.specs.declared.values.Val.{Val}
use Rattle.heyvl_acts.specs.Acts.{Act, Acts, Arms, Head, TypedProcedure, Variable}
use Rattle.quant_algebra.specs.ExactMeaning.{exact_value}
use Rattle.refute_runs.specs.RefutedAnswers.{PassesAt, StaysWithin, StopsAt}
use Rattle.refute_runs.specs.RefutedAnswers.StopsAt.{by_number, by_step}
use Rattle.refute_runs.specs.Shortages.{IsShort}
use Rattle.refute_runs.specs.Shortages.IsShort.{final_adding, no_order, no_pre, no_sum}
use Rattle.refute_runs.specs.SumsAfter.{IsWithinBefore, together, unrolled_in}
use Rattle.run_unroller.specs.MergedLists.{merged_onto}
use Rattle.run_unroller.specs.Unrolling.{Unrolling, unrolling_of}
use Rattle.run_unroller.specs.declared.answers.Unrolled.TheVariants as unrolled

-- The numerator and the denominator of a value; 1 and 0 for infinity.
abbrev parts : Value → ℤ × ℕ
parts (finite x) = (x.num, x.den)
parts infinite = (pos 1, 0)

-- The sum of the first procedure after `n` steps, from a state and without decisions.
abbrev sum_after : List TypedProcedure → List Val → ℕ → Option (ℤ × ℕ)
sum_after ps state s = option_map parts (together (unrolled_in ps 0 state [] s))

abbrev place : Span
place = record { from = 0; to = 0 }

abbrev variable : Ty → Variable
variable ty = record { name = []; ty = ty }

abbrev whole : ℕ → Value
whole n = finite (ratio (pos n) 1)

abbrev number : ℕ → Form
number n = Form.number (whole n)

abbrev acts : List Act → Acts
acts [] = Acts.done
acts (a ∷ rest) = Acts.next a (acts rest)

-- A procedure with a pre and a post.
abbrev procedure : ℕ → List Ty → List Ty → Form → Form → List Act → TypedProcedure
procedure n outs locals pre post body = record { name = []; co = true; weak = false; inputs = []; outputs = map variable outs; locals = map variable locals; pre = pre; post = post; body = Some (acts body); loops = n; span = place }

-- ---- Payments: `reward 1 reward 1 reward 1` with the pre 1

abbrev pays : List TypedProcedure
pays = procedure 0 [] [] (number 1) (number 0) (Act.reward (number 1) place ∷ Act.reward (number 1) place ∷ Act.reward (number 1) place ∷ []) ∷ []

payments : (sum_after pays [] 0 ≡ Some (pos 0, 1)) × (sum_after pays [] 1 ≡ Some (pos 1, 1)) × (sum_after pays [] 2 ≡ Some (pos 2, 1)) × (sum_after pays [] 9 ≡ Some (pos 3, 1))
unfolding merged_onto joined scaled halfʳ ratio gcd gcd_steps zeroʳ oneʳ zeroᵛ oneᵛ ◌+ʳ◌ ◌*ʳ◌ ◌-ʳ◌ ◌+ᵛ◌ ◌*ᵛ◌ infinite_times is_zeroʳ leqʳ leqᵛ compareʳ exact_sum sum_fits exact_product product_fits exact_order order_fits
payments = (refl, refl, refl, refl)

-- The second payment exceeds the pre.
second_passes : PassesAt (unrolled_in pays 0 [] []) (Some (whole 1)) 9 2 (whole 2) (whole 1)
unfolding merged_onto joined scaled halfʳ ratio gcd gcd_steps zeroʳ oneʳ zeroᵛ oneᵛ ◌+ʳ◌ ◌*ʳ◌ ◌-ʳ◌ ◌+ᵛ◌ ◌*ᵛ◌ infinite_times is_zeroʳ leqʳ leqᵛ compareʳ exact_sum sum_fits exact_product product_fits exact_order order_fits
second_passes = record { steps = omega arith; given = refl; summed = refl; above = record { holds = refl }; before = (whole 1, (refl, record { holds = refl })) }

-- After one step the sum is at most the pre.
first_stays : StaysWithin (unrolled_in pays 0 [] []) (Some (whole 1)) 1 (whole 1) (whole 1)
unfolding merged_onto joined scaled halfʳ ratio gcd gcd_steps zeroʳ oneʳ zeroᵛ oneᵛ ◌+ʳ◌ ◌*ʳ◌ ◌-ʳ◌ ◌+ᵛ◌ ◌*ᵛ◌ infinite_times is_zeroʳ leqʳ leqᵛ compareʳ exact_sum sum_fits exact_product product_fits exact_order order_fits
first_stays = record { given = refl; summed = refl; within = record { holds = refl } }

-- ---- The geometric loop: the variables are c, cont and stop

abbrev plus_one : ℕ → Term
plus_one x = Term.number (Form.sum (Form.variable x) (number 1))

abbrev truth : Bool → Term
truth b = Term.truth (Cond.constant b)

abbrev head : ℕ → Cond → Head
head n g = record { number = n; k = 1; inv = number 0; guard = g; rank = None; scope = []; span = place }

abbrev geo : List TypedProcedure
geo = procedure 1 (Ty.UInt ∷ []) (Ty.Bool ∷ Ty.Bool ∷ []) (Form.number (finite halfʳ)) (Form.variable 0) (Act.set 0 (Term.number (number 0)) place ∷ Act.set 1 (truth true) place ∷ Act.loop (head 1 (Cond.flag 1)) (acts (Act.draw 2 ((halfʳ, truth true) ∷ (halfʳ, truth false) ∷ []) place ∷ Act.ifs (Arms.arm (Cond.flag 2) (acts (Act.set 1 (truth false) place ∷ [])) Arms.no_arm) (acts (Act.set 0 (plus_one 0) place ∷ [])) place ∷ [])) ∷ []) ∷ []

abbrev geo_start : List Val
geo_start = Num (ratio (pos 0) 1) ∷ Truth false ∷ Truth false ∷ []

-- Runs terminate after 7 and 11 steps with 0 and 1.
geo_sums : (sum_after geo geo_start 7 ≡ Some (pos 0, 1)) × (sum_after geo geo_start 10 ≡ Some (pos 0, 1)) × (sum_after geo geo_start 11 ≡ Some (pos 1, 4))
unfolding merged_onto joined scaled halfʳ ratio gcd gcd_steps zeroʳ oneʳ zeroᵛ oneᵛ ◌+ʳ◌ ◌*ʳ◌ ◌-ʳ◌ ◌+ᵛ◌ ◌*ᵛ◌ infinite_times is_zeroʳ leqʳ leqᵛ compareʳ exact_sum sum_fits exact_product product_fits exact_order order_fits
geo_sums = (refl, refl, refl)

-- ---- Numbers that overflow: the largest number of 127 bits, plus 1

abbrev wide : Form
wide = Form.sum (number 170141183460469231731687303715884105727) (number 1)

-- As the pre, it stops the search at once; as the second reward, it stops the second step.
wide_pre : StopsAt (unrolled_in pays 0 [] []) (exact_value wide []) 9 0 (unrolling_of (unrolled.Bits 1))
unfolding halfʳ ratio gcd gcd_steps zeroʳ oneʳ zeroᵛ oneᵛ ◌+ʳ◌ ◌*ʳ◌ exact_sum sum_fits
wide_pre = by_number (omega arith) (no_pre refl) refl (λ bound e. tt)

abbrev wide_pays : List TypedProcedure
wide_pays = procedure 0 [] [] (number 1) (number 0) (Act.reward (number 1) place ∷ Act.reward wide place ∷ []) ∷ []

wide_step : StopsAt (unrolled_in wide_pays 0 [] []) (Some (whole 1)) 9 2 (unrolling_of (unrolled.Bits 2))
unfolding merged_onto joined scaled halfʳ ratio gcd gcd_steps zeroʳ oneʳ zeroᵛ oneᵛ ◌+ʳ◌ ◌*ʳ◌ ◌-ʳ◌ ◌+ᵛ◌ ◌*ᵛ◌ infinite_times is_zeroʳ leqʳ leqᵛ compareʳ exact_sum sum_fits exact_product product_fits exact_order order_fits
wide_step = by_step (whole 1) (omega arith) (omega arith) refl refl refl (whole 1, (refl, record { holds = refl }))

-- ---- Each overflow, and runs without one

-- A post that overflows stops the adding of the sums.
abbrev wide_post : List TypedProcedure
wide_post = procedure 0 [] [] (number 1) wide [] ∷ []

wide_post_is_short : IsShort (unrolled_in wide_post 0 [] []) (Some (whole 1)) 0
unfolding merged_onto joined scaled halfʳ ratio gcd gcd_steps zeroʳ oneʳ zeroᵛ oneᵛ ◌+ʳ◌ ◌*ʳ◌ ◌-ʳ◌ ◌+ᵛ◌ ◌*ᵛ◌ infinite_times is_zeroʳ leqʳ leqᵛ compareʳ exact_sum sum_fits exact_product product_fits exact_order order_fits
wide_post_is_short = final_adding refl

-- A pre that overflows does so after any number of steps.
wide_pre_is_short : IsShort (unrolled_in pays 0 [] []) (exact_value wide []) 2
unfolding ratio gcd gcd_steps exact_sum sum_fits
wide_pre_is_short = no_pre refl

-- The reward 2^127 - 1 and the post 1 do not overflow, but their sum does.
abbrev wide_sum : List TypedProcedure
wide_sum = procedure 0 [] [] (number 1) (number 1) (Act.reward (number 170141183460469231731687303715884105727) place ∷ []) ∷ []

wide_sum_is_short : IsShort (unrolled_in wide_sum 0 [] []) (Some (whole 1)) 1
unfolding merged_onto joined scaled halfʳ ratio gcd gcd_steps zeroʳ oneʳ zeroᵛ oneᵛ ◌+ʳ◌ ◌*ʳ◌ ◌-ʳ◌ ◌+ᵛ◌ ◌*ᵛ◌ infinite_times is_zeroʳ leqʳ leqᵛ compareʳ exact_sum sum_fits exact_product product_fits exact_order order_fits
wide_sum_is_short = no_sum _ refl refl

-- The pre 2^126 and the post 1/4 do not overflow, but the products by which they are compared do.
abbrev far_pre : List TypedProcedure
far_pre = procedure 0 [] [] (number 85070591730234615865843651857942052864) (Form.number (finite (ratio (pos 1) 4))) [] ∷ []

far_pre_is_short : IsShort (unrolled_in far_pre 0 [] []) (Some (whole 85070591730234615865843651857942052864)) 0
unfolding merged_onto joined scaled halfʳ ratio gcd gcd_steps zeroʳ oneʳ zeroᵛ oneᵛ ◌+ʳ◌ ◌*ʳ◌ ◌-ʳ◌ ◌+ᵛ◌ ◌*ᵛ◌ infinite_times is_zeroʳ leqʳ leqᵛ compareʳ exact_sum sum_fits exact_product product_fits exact_order order_fits
far_pre_is_short = no_order (finite (ratio (pos 1) 4)) (whole 85070591730234615865843651857942052864) refl refl refl

present : {A : Type 0} (o : Option A) → is_some o ≡ true → o ≡ None → ⊥
present None e n = cc
present (Some x) e n = cc

of_some : {A : Type 0} (x y : A) → Some x ≡ Some y → x ≡ y
of_some x y e = cc

-- After two payments, and with the pre 1, no number overflows.
payments_are_not_short : IsShort (unrolled_in pays 0 [] []) (Some (whole 1)) 2 → ⊥
unfolding merged_onto joined scaled halfʳ ratio gcd gcd_steps zeroʳ oneʳ zeroᵛ oneᵛ ◌+ʳ◌ ◌*ʳ◌ ◌-ʳ◌ ◌+ᵛ◌ ◌*ᵛ◌ infinite_times is_zeroʳ leqʳ leqᵛ compareʳ exact_sum sum_fits exact_product product_fits exact_order order_fits
payments_are_not_short (final_adding e) = cc
payments_are_not_short (no_pre e) = cc
payments_are_not_short (no_sum t e n) = present (together (unrolled_in pays 0 [] [] 2)) refl (ap together e ∙ n)
payments_are_not_short (no_order sum bound e p n) = present (exact_orderᵛ (whole 1) (whole 2)) refl (subst (λ v. exact_orderᵛ v (whole 2) ≡ None) (sym (of_some (whole 1) bound p)) (subst (λ v. exact_orderᵛ bound v ≡ None) (sym (of_some (whole 2) sum e)) n))

-- The search does not stop there, neither by the step nor by an overflow.
payments_do_not_stop : (answer : Unrolling) → StopsAt (unrolled_in pays 0 [] []) (Some (whole 1)) 9 2 answer → ⊥
unfolding merged_onto joined scaled halfʳ ratio gcd gcd_steps zeroʳ oneʳ zeroᵛ oneᵛ ◌+ʳ◌ ◌*ʳ◌ ◌-ʳ◌ ◌+ᵛ◌ ◌*ᵛ◌ infinite_times is_zeroʳ leqʳ leqᵛ compareʳ exact_sum sum_fits exact_product product_fits exact_order order_fits
payments_do_not_stop answer (by_step bound one few names same given before) = names
payments_do_not_stop answer (by_number few short same before) = payments_are_not_short short

-- One payment does not exceed the pre.
first_does_not_pass : (sum bound : Value) → PassesAt (unrolled_in pays 0 [] []) (Some (whole 1)) 9 1 sum bound → ⊥
unfolding merged_onto joined scaled halfʳ ratio gcd gcd_steps zeroʳ oneʳ zeroᵛ oneᵛ ◌+ʳ◌ ◌*ʳ◌ ◌-ʳ◌ ◌+ᵛ◌ ◌*ᵛ◌ infinite_times is_zeroʳ leqʳ leqᵛ compareʳ exact_sum sum_fits exact_product product_fits exact_order order_fits
first_does_not_pass sum bound h = let e = subst (λ v. leqᵛ (whole 1) v ≡ false) (sym (of_some (whole 1) bound h.given)) (subst (λ v. leqᵛ v bound ≡ false) (sym (of_some (whole 1) sum h.summed)) h.above.holds) in cc

-- Two payments are not within the pre.
second_does_not_stay : (sum bound : Value) → StaysWithin (unrolled_in pays 0 [] []) (Some (whole 1)) 2 sum bound → ⊥
unfolding merged_onto joined scaled halfʳ ratio gcd gcd_steps zeroʳ oneʳ zeroᵛ oneᵛ ◌+ʳ◌ ◌*ʳ◌ ◌-ʳ◌ ◌+ᵛ◌ ◌*ᵛ◌ infinite_times is_zeroʳ leqʳ leqᵛ compareʳ exact_sum sum_fits exact_product product_fits exact_order order_fits
second_does_not_stay sum bound h = let e = subst (λ v. leqᵛ (whole 2) v ≡ true) (sym (of_some (whole 1) bound h.given)) (subst (λ v. leqᵛ v bound ≡ true) (sym (of_some (whole 2) sum h.summed)) h.within.holds) in cc

-- Two rewards of 1, and then a post whose sum with them overflows.
abbrev late_sum : List TypedProcedure
late_sum = procedure 0 [] [] (number 1) (number 170141183460469231731687303715884105727) (Act.reward (number 1) place ∷ Act.reward (number 1) place ∷ Act.reward (number 1) place ∷ []) ∷ []

late_sums : (together (unrolled_in late_sum 0 [] [] 2) ≡ Some (whole 2)) × (together (unrolled_in late_sum 0 [] [] 3) ≡ None)
unfolding merged_onto joined scaled halfʳ ratio gcd gcd_steps zeroʳ oneʳ zeroᵛ oneᵛ ◌+ʳ◌ ◌*ʳ◌ ◌-ʳ◌ ◌+ᵛ◌ ◌*ᵛ◌ infinite_times is_zeroʳ leqʳ leqᵛ compareʳ exact_sum sum_fits exact_product product_fits exact_order order_fits
late_sums = (refl, refl)

two_above : whole 2 ≤ᵛ whole 1 → ⊥
unfolding ratio gcd gcd_steps leqʳ leqᵛ
two_above h = let k : false ≡ true = h.holds in absurd (cc)

past_two : (bound : Value) → Some (whole 1) ≡ Some bound → IsWithinBefore (unrolled_in late_sum 0 [] []) bound 3 → ⊥
past_two bound e w =
    let s = sym late_sums.0 ∙ w.1.0 in
    let a : whole 2 ≡ w.0 = cc in
    let b : whole 1 ≡ bound = cc in
    two_above (subst (λ v. v ≤ᵛ whole 1) (sym a) (subst (λ v. w.0 ≤ᵛ v) (sym b) w.1.1))

-- After 3 steps there is no stop, since the sum after 2 steps is above the pre.
no_stop_past_violation : (answer : Unrolling) → StopsAt (unrolled_in late_sum 0 [] []) (Some (whole 1)) 9 3 answer → ⊥
no_stop_past_violation answer (by_step bound one few names same given before) = past_two bound given before
no_stop_past_violation answer (by_number few short same before) = past_two (whole 1) refl (before (whole 1) refl)
