-- Worked runs under scripts, computed by evaluating the definitions.
use Rattle.std.proofs.Common.{◌≡◌, ℕ, refl, Bool, true, false, List, [], ◌∷◌, Some, None, pos, map}
use Rattle.std.specs.Prelude.{ℤ}
use Rattle.heyvl_num.specs.Gcd.{gcd, gcd_steps}
use Rattle.heyvl_num.specs.Rational.{Rational, ratio, zeroʳ, oneʳ, halfʳ, leqʳ, compareʳ, ◌+ʳ◌, ◌*ʳ◌, ◌-ʳ◌}
use Rattle.heyvl_num.specs.Value.{Value, zeroᵛ, oneᵛ, ◌+ᵛ◌, ◌*ᵛ◌, infinite_times, is_zeroʳ, leqᵛ}
use Rattle.heyvl_num.specs.Value.Value.{finite, infinite}
use Rattle.heyvl_num.specs.Exact.{exact_sum, sum_fits, exact_product, product_fits, exact_order, order_fits}
use Rattle.heyvl_num.specs.WeightedSums.{scaled, joined}
use Rattle.heyvl_places.specs.declared.spans.Span.{Span}
use Rattle.heylo_formula.specs.Formula.{Form, Cond, Term}
use Rattle.heylo_formula.specs.declared.types.Ty.{Ty}
use Rattle.heylo_formula.specs.declared.values.Val.{Val}
use Rattle.heylo_formula.specs.declared.values.Val.TheVariants.{Truth, Num}
use Rattle.heyvl_acts.specs.Acts.{Head, Act, Acts, Arms, Variable, TypedProcedure}
use Rattle.run_machine.specs.declared.configurations.Decide.{Decide}
use Rattle.run_machine.specs.declared.configurations.Decide.TheVariants.{Left, Give}
use Rattle.run_machine.specs.Names.{Stored}
use Rattle.run_machine.specs.StoredStep.{stored_begin}
use Rattle.run_unroller.specs.declared.causes.Cause.TheVariants.{Full, Deep, Bits}
use Rattle.run_unroller.specs.Causes.{Brought, first_cause, product_cause, put_cause}
use Rattle.run_unroller.specs.MergedLists.{merged_onto}
use Rattle.run_unroller.specs.RunLists.{after, begun}
use Rattle.run_unroller.specs.Unrolling.{Unrolling, unrolled}

-- The numerator and the denominator of a value; 1 and 0 for infinity.
abbrev parts : Value → ℤ × ℕ
parts (finite x) = (x.num, x.den)
parts infinite = (pos 1, 0)

abbrev fraction : Rational → ℤ × ℕ
fraction x = (x.num, x.den)

-- The post, the reward, the mass not yet terminated, and the expected iterations of each loop.
abbrev shown : Unrolling → List (ℤ × ℕ)
shown (Unrolling.sums t) = parts t.post ∷ parts t.reward ∷ fraction t.running ∷ map fraction t.turns
shown (Unrolling.stopped cause n) = []

abbrev after_steps : ℕ → List TypedProcedure → List Val → List Decide → List (ℤ × ℕ)
after_steps n ps s script = shown (unrolled ps 0 script n (begun (stored_begin ps 0 s)))

abbrev place : Span
place = record { from = 0; to = 0 }

abbrev variable : Ty → Variable
variable ty = record { name = []; ty = ty }

abbrev number : ℕ → Form
number n = Form.number (finite (ratio (pos n) 1))

abbrev plus_one : ℕ → Term
plus_one x = Term.number (Form.sum (Form.variable x) (number 1))

abbrev truth : Bool → Term
truth b = Term.truth (Cond.constant b)

abbrev flip : List (Rational × Term)
flip = (halfʳ, truth true) ∷ (halfʳ, truth false) ∷ []

abbrev acts : List Act → Acts
acts [] = Acts.done
acts (a ∷ rest) = Acts.next a (acts rest)

-- A procedure with `n` loops.
abbrev procedure : ℕ → List Ty → List Ty → List Ty → Form → List Act → TypedProcedure
procedure n ins outs locals post body = record { name = []; co = true; weak = false; inputs = map variable ins; outputs = map variable outs; locals = map variable locals; pre = number 0; post = post; body = Some (acts body); loops = n; span = place }

abbrev head : ℕ → Cond → Head
head n g = record { number = n; k = 1; inv = number 0; guard = g; rank = None; scope = []; span = place }

abbrev uint : ℕ → Val
uint n = Num (ratio (pos n) 1)

-- ---- A geometric loop: variables init_c, c, cont and stop

abbrev geo_body : Acts
geo_body = acts (Act.draw 3 flip place ∷ Act.ifs (Arms.arm (Cond.flag 3) (acts (Act.set 2 (truth false) place ∷ [])) Arms.no_arm) (acts (Act.set 1 (plus_one 1) place ∷ [])) place ∷ [])

abbrev geo : TypedProcedure
geo = procedure 1 (Ty.UInt ∷ []) (Ty.UInt ∷ []) (Ty.Bool ∷ Ty.Bool ∷ []) (Form.variable 1) (Act.set 1 (Term.number (Form.variable 0)) place ∷ Act.set 2 (truth true) place ∷ Act.loop (head 1 (Cond.flag 2)) geo_body ∷ [])

abbrev geo_start : List Val
geo_start = uint 0 ∷ uint 0 ∷ Truth false ∷ Truth false ∷ []

geo_0 : after_steps 0 (geo ∷ []) geo_start [] ≡ (pos 0, 1) ∷ (pos 0, 1) ∷ (pos 1, 1) ∷ (pos 0, 1) ∷ []
unfolding merged_onto joined scaled halfʳ ratio gcd gcd_steps zeroʳ oneʳ zeroᵛ oneᵛ ◌+ʳ◌ ◌*ʳ◌ ◌-ʳ◌ ◌+ᵛ◌ ◌*ᵛ◌ infinite_times is_zeroʳ leqʳ leqᵛ compareʳ exact_sum sum_fits exact_product product_fits exact_order order_fits
geo_0 = refl

geo_7 : after_steps 7 (geo ∷ []) geo_start [] ≡ (pos 0, 1) ∷ (pos 0, 1) ∷ (pos 1, 2) ∷ (pos 3, 2) ∷ []
unfolding merged_onto joined scaled halfʳ ratio gcd gcd_steps zeroʳ oneʳ zeroᵛ oneᵛ ◌+ʳ◌ ◌*ʳ◌ ◌-ʳ◌ ◌+ᵛ◌ ◌*ᵛ◌ infinite_times is_zeroʳ leqʳ leqᵛ compareʳ exact_sum sum_fits exact_product product_fits exact_order order_fits
geo_7 = refl

geo_11 : after_steps 11 (geo ∷ []) geo_start [] ≡ (pos 1, 4) ∷ (pos 0, 1) ∷ (pos 1, 4) ∷ (pos 7, 4) ∷ []
unfolding merged_onto joined scaled halfʳ ratio gcd gcd_steps zeroʳ oneʳ zeroᵛ oneᵛ ◌+ʳ◌ ◌*ʳ◌ ◌-ʳ◌ ◌+ᵛ◌ ◌*ᵛ◌ infinite_times is_zeroʳ leqʳ leqᵛ compareʳ exact_sum sum_fits exact_product product_fits exact_order order_fits
geo_11 = refl

-- ---- Decisions by their numbers: x and y take any values, and the post is x + 10 * y

abbrev both : Form
both = Form.sum (Form.variable 0) (Form.scale (ratio (pos 10) 1) (Form.variable 1))

abbrev take_any : ℕ → Act
take_any x = Act.any x true Ty.UInt place

abbrev anything : TypedProcedure
anything = procedure 0 [] (Ty.UInt ∷ Ty.UInt ∷ []) [] both (take_any 0 ∷ take_any 1 ∷ [])

abbrev zeros : List Val
zeros = uint 0 ∷ uint 0 ∷ []

script_of_two : after_steps 2 (anything ∷ []) zeros (Give (uint 3) ∷ Give (uint 5) ∷ []) ≡ (pos 53, 1) ∷ (pos 0, 1) ∷ (pos 0, 1) ∷ []
unfolding merged_onto joined scaled halfʳ ratio gcd gcd_steps zeroʳ oneʳ zeroᵛ oneᵛ ◌+ʳ◌ ◌*ʳ◌ ◌-ʳ◌ ◌+ᵛ◌ ◌*ᵛ◌ infinite_times is_zeroʳ leqʳ leqᵛ compareʳ exact_sum sum_fits exact_product product_fits exact_order order_fits
script_of_two = refl

longer_script : after_steps 2 (anything ∷ []) zeros (Give (uint 3) ∷ Give (uint 5) ∷ Give (uint 7) ∷ []) ≡ (pos 53, 1) ∷ (pos 0, 1) ∷ (pos 0, 1) ∷ []
unfolding merged_onto joined scaled halfʳ ratio gcd gcd_steps zeroʳ oneʳ zeroᵛ oneᵛ ◌+ʳ◌ ◌*ʳ◌ ◌-ʳ◌ ◌+ᵛ◌ ◌*ᵛ◌ infinite_times is_zeroʳ leqʳ leqᵛ compareʳ exact_sum sum_fits exact_product product_fits exact_order order_fits
longer_script = refl

shorter_script : after_steps 2 (anything ∷ []) zeros (Give (uint 3) ∷ []) ≡ (pos 3, 1) ∷ (pos 0, 1) ∷ (pos 0, 1) ∷ []
unfolding merged_onto joined scaled halfʳ ratio gcd gcd_steps zeroʳ oneʳ zeroᵛ oneᵛ ◌+ʳ◌ ◌*ʳ◌ ◌-ʳ◌ ◌+ᵛ◌ ◌*ᵛ◌ infinite_times is_zeroʳ leqʳ leqᵛ compareʳ exact_sum sum_fits exact_product product_fits exact_order order_fits
shorter_script = refl

ill_typed_entry : after_steps 2 (anything ∷ []) zeros (Left ∷ Give (uint 5) ∷ []) ≡ (pos 50, 1) ∷ (pos 0, 1) ∷ (pos 0, 1) ∷ []
unfolding merged_onto joined scaled halfʳ ratio gcd gcd_steps zeroʳ oneʳ zeroᵛ oneᵛ ◌+ʳ◌ ◌*ʳ◌ ◌-ʳ◌ ◌+ᵛ◌ ◌*ᵛ◌ infinite_times is_zeroʳ leqʳ leqᵛ compareʳ exact_sum sum_fits exact_product product_fits exact_order order_fits
ill_typed_entry = refl

-- After heads x takes the first entry and y the second; after tails y takes the first.
abbrev branching : TypedProcedure
branching = procedure 0 [] (Ty.UInt ∷ Ty.UInt ∷ []) (Ty.Bool ∷ []) both (Act.draw 2 flip place ∷ Act.ifs (Arms.arm (Cond.flag 2) (acts (take_any 0 ∷ [])) Arms.no_arm) (acts []) place ∷ take_any 1 ∷ [])

runs_count_their_own_decisions : after_steps 4 (branching ∷ []) (uint 0 ∷ uint 0 ∷ Truth false ∷ []) (Give (uint 3) ∷ Give (uint 5) ∷ []) ≡ (pos 83, 2) ∷ (pos 0, 1) ∷ (pos 0, 1) ∷ []
unfolding merged_onto joined scaled halfʳ ratio gcd gcd_steps zeroʳ oneʳ zeroᵛ oneᵛ ◌+ʳ◌ ◌*ʳ◌ ◌-ʳ◌ ◌+ᵛ◌ ◌*ᵛ◌ infinite_times is_zeroʳ leqʳ leqᵛ compareʳ exact_sum sum_fits exact_product product_fits exact_order order_fits
runs_count_their_own_decisions = refl

one_run_has_ended : after_steps 3 (branching ∷ []) (uint 0 ∷ uint 0 ∷ Truth false ∷ []) (Give (uint 3) ∷ Give (uint 5) ∷ []) ≡ (pos 15, 1) ∷ (pos 0, 1) ∷ (pos 1, 2) ∷ []
unfolding merged_onto joined scaled halfʳ ratio gcd gcd_steps zeroʳ oneʳ zeroᵛ oneᵛ ◌+ʳ◌ ◌*ʳ◌ ◌-ʳ◌ ◌+ᵛ◌ ◌*ᵛ◌ infinite_times is_zeroʳ leqʳ leqᵛ compareʳ exact_sum sum_fits exact_product product_fits exact_order order_fits
one_run_has_ended = refl

-- ---- Two loops, with one iteration and with two, and a reward in the second one

abbrev loops_twice : TypedProcedure
loops_twice = procedure 2 [] (Ty.UInt ∷ []) (Ty.Bool ∷ []) (Form.variable 0) (Act.set 1 (truth true) place ∷ Act.loop (head 1 (Cond.flag 1)) (acts (Act.set 1 (truth false) place ∷ [])) ∷ Act.loop (head 2 (Cond.lt (Form.variable 0) (number 2))) (acts (Act.set 0 (plus_one 0) place ∷ Act.reward (number 5) place ∷ [])) ∷ [])

turns_of_two_loops : after_steps 11 (loops_twice ∷ []) (uint 0 ∷ Truth false ∷ []) [] ≡ (pos 2, 1) ∷ (pos 10, 1) ∷ (pos 0, 1) ∷ (pos 1, 1) ∷ (pos 2, 1) ∷ []
unfolding merged_onto joined scaled halfʳ ratio gcd gcd_steps zeroʳ oneʳ zeroᵛ oneᵛ ◌+ʳ◌ ◌*ʳ◌ ◌-ʳ◌ ◌+ᵛ◌ ◌*ᵛ◌ infinite_times is_zeroʳ leqʳ leqᵛ compareʳ exact_sum sum_fits exact_product product_fits exact_order order_fits
turns_of_two_loops = refl

second_loop_under_way : after_steps 6 (loops_twice ∷ []) (uint 0 ∷ Truth false ∷ []) [] ≡ (pos 0, 1) ∷ (pos 0, 1) ∷ (pos 1, 1) ∷ (pos 1, 1) ∷ (pos 1, 1) ∷ []
unfolding merged_onto joined scaled halfʳ ratio gcd gcd_steps zeroʳ oneʳ zeroᵛ oneᵛ ◌+ʳ◌ ◌*ʳ◌ ◌-ʳ◌ ◌+ᵛ◌ ◌*ᵛ◌ infinite_times is_zeroʳ leqʳ leqᵛ compareʳ exact_sum sum_fits exact_product product_fits exact_order order_fits
second_loop_under_way = refl

-- ---- Equal runs are merged

-- The weights of the list, each with the number of decisions asked for.
abbrev weights_after : ℕ → TypedProcedure → List Val → List ((ℤ × ℕ) × ℕ)
weights_after n p s = map (λ x. (fraction x.0, x.1.made)) (after (p ∷ []) [] n (begun (stored_begin (p ∷ []) 0 s)))

-- Two flips of one variable are two runs, and of two variables four.
abbrev flip_twice : ℕ → TypedProcedure
flip_twice x = procedure 0 [] (Ty.Bool ∷ Ty.Bool ∷ []) [] (number 0) (Act.draw 0 flip place ∷ Act.draw x flip place ∷ [])

same_variable : weights_after 2 (flip_twice 0) (Truth false ∷ Truth false ∷ []) ≡ ((pos 1, 2), 0) ∷ ((pos 1, 2), 0) ∷ []
unfolding merged_onto joined scaled halfʳ ratio gcd gcd_steps zeroʳ oneʳ zeroᵛ oneᵛ ◌+ʳ◌ ◌*ʳ◌ ◌-ʳ◌ ◌+ᵛ◌ ◌*ᵛ◌ infinite_times is_zeroʳ leqʳ leqᵛ compareʳ exact_sum sum_fits exact_product product_fits exact_order order_fits
same_variable = refl

two_variables : weights_after 2 (flip_twice 1) (Truth false ∷ Truth false ∷ []) ≡ ((pos 1, 4), 0) ∷ ((pos 1, 4), 0) ∷ ((pos 1, 4), 0) ∷ ((pos 1, 4), 0) ∷ []
unfolding merged_onto joined scaled halfʳ ratio gcd gcd_steps zeroʳ oneʳ zeroᵛ oneᵛ ◌+ʳ◌ ◌*ʳ◌ ◌-ʳ◌ ◌+ᵛ◌ ◌*ᵛ◌ infinite_times is_zeroʳ leqʳ leqᵛ compareʳ exact_sum sum_fits exact_product product_fits exact_order order_fits
two_variables = refl

-- With the probabilities 1/4, 1/2 and 1/4 of 1, 2 and 1: the runs with 1 are merged at the first
-- place, with the weight 1/2.
abbrev quarter : Rational
quarter = ratio (pos 1) 4

abbrev place_kept : TypedProcedure
place_kept = procedure 0 [] (Ty.UInt ∷ []) [] (Form.variable 0) (Act.draw 0 ((quarter, Term.number (number 1)) ∷ (halfʳ, Term.number (number 2)) ∷ (quarter, Term.number (number 1)) ∷ []) place ∷ [])

abbrev values_after : ℕ → TypedProcedure → List Val → List ((ℤ × ℕ) × List Val)
values_after n p s = map (λ x. (fraction x.0, x.1.state)) (after (p ∷ []) [] n (begun (stored_begin (p ∷ []) 0 s)))

first_place_is_kept : values_after 1 place_kept (uint 0 ∷ []) ≡ ((pos 1, 2), uint 1 ∷ []) ∷ ((pos 1, 2), uint 2 ∷ []) ∷ []
unfolding merged_onto joined scaled halfʳ ratio gcd gcd_steps zeroʳ oneʳ zeroᵛ oneᵛ ◌+ʳ◌ ◌*ʳ◌ ◌-ʳ◌ ◌+ᵛ◌ ◌*ᵛ◌ infinite_times is_zeroʳ leqʳ leqᵛ compareʳ exact_sum sum_fits exact_product product_fits exact_order order_fits
first_place_is_kept = refl

-- After heads x is asked for, after tails it is set to the same value: the runs have different
-- numbers of decisions.
abbrev asked_or_set : TypedProcedure
asked_or_set = procedure 0 [] (Ty.UInt ∷ []) (Ty.Bool ∷ []) (Form.variable 0) (Act.draw 1 flip place ∷ Act.ifs (Arms.arm (Cond.flag 1) (acts (Act.set 1 (truth false) place ∷ take_any 0 ∷ [])) Arms.no_arm) (acts (Act.set 1 (truth false) place ∷ Act.set 0 (Term.number (number 0)) place ∷ [])) place ∷ [])

decisions_keep_runs_apart : weights_after 4 asked_or_set (uint 0 ∷ Truth false ∷ []) ≡ ((pos 1, 2), 1) ∷ ((pos 1, 2), 0) ∷ []
unfolding merged_onto joined scaled halfʳ ratio gcd gcd_steps zeroʳ oneʳ zeroᵛ oneᵛ ◌+ʳ◌ ◌*ʳ◌ ◌-ʳ◌ ◌+ᵛ◌ ◌*ᵛ◌ infinite_times is_zeroʳ leqʳ leqᵛ compareʳ exact_sum sum_fits exact_product product_fits exact_order order_fits
decisions_keep_runs_apart = refl

-- ---- The first cause

one_run_fits : put_cause 65535 halfʳ None ≡ None
one_run_fits = refl

one_run_too_many : put_cause 65536 halfʳ None ≡ Some Full
one_run_too_many = refl

an_equal_run_needs_no_room : put_cause 65536 halfʳ (Some halfʳ) ≡ None
unfolding merged_onto joined scaled halfʳ ratio gcd gcd_steps zeroʳ oneʳ zeroᵛ oneᵛ ◌+ʳ◌ ◌*ʳ◌ ◌-ʳ◌ ◌+ᵛ◌ ◌*ᵛ◌ infinite_times is_zeroʳ leqʳ leqᵛ compareʳ exact_sum sum_fits exact_product product_fits exact_order order_fits
an_equal_run_needs_no_room = refl

-- 1 / 2^64 and 1 / (2^64 - 1) have no exact sum, since the product of the denominators is above
-- 2^127.
narrow_sums_only : put_cause 1 (ratio (pos 1) 18446744073709551616) (Some (ratio (pos 1) 18446744073709551615)) ≡ Some Bits
unfolding merged_onto joined scaled halfʳ ratio gcd gcd_steps zeroʳ oneʳ zeroᵛ oneᵛ ◌+ʳ◌ ◌*ʳ◌ ◌-ʳ◌ ◌+ᵛ◌ ◌*ᵛ◌ infinite_times is_zeroʳ leqʳ leqᵛ compareʳ exact_sum sum_fits exact_product product_fits exact_order order_fits
narrow_sums_only = refl

product_before_room : (c : Stored) → product_cause [] c None ≡ Some Bits
product_before_room c = refl

the_first_cause_counts : first_cause [] (Brought.stops Deep ∷ Brought.stops Bits ∷ []) ≡ Some Deep
the_first_cause_counts = refl
