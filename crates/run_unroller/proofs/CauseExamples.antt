-- Causes that stop the steps of small programs under an empty script: for each cause, runs that it
-- stops, and smaller ones that nothing stops.
use Rattle.std.specs.Option.{option_or}
use Rattle.std.proofs.Common.{◌≡◌, ◌+◌, ◌≤◌, ◌<◌, subst, ℕ, suc, zero, refl, sym, ap, Bool, true, false, List, [], ◌∷◌, Some, None, pos, length, arith}
use Rattle.std.specs.Prelude.{Option, replicate, nat_lt, if◌then◌else◌}
use Rattle.heyvl_num.specs.Exact.{exact_sum, sum_fits, exact_difference, difference_fits, exact_product, product_fits, exact_order, order_fits}
use Rattle.heyvl_num.specs.Gcd.{gcd, gcd_steps}
use Rattle.heyvl_num.specs.Rational.{Rational, ratio, zeroʳ, oneʳ, halfʳ, negʳ, leqʳ, compareʳ, ◌+ʳ◌, ◌*ʳ◌, ◌-ʳ◌}
use Rattle.heyvl_num.specs.Value.{zeroᵛ, oneᵛ, ◌+ᵛ◌, ◌*ᵛ◌, infinite_times, is_zeroʳ, leqᵛ}
use Rattle.heyvl_num.specs.Value.Value.{finite}
use Rattle.heyvl_num.specs.ValueOperators.{minᵛ}
use Rattle.heyvl_num.specs.WeightedSums.{scaled, joined}
use Rattle.heyvl_places.specs.declared.spans.Span.{Span}
use Rattle.heylo_formula.specs.Formula.{Form, Cond, Term}
use Rattle.heylo_formula.specs.declared.types.Ty.{Ty}
use Rattle.heylo_formula.specs.declared.values.Val.{Val}
use Rattle.heylo_formula.specs.declared.values.Val.TheVariants.{Truth}
use Rattle.heyvl_acts.specs.Acts.{Act, Acts, Variable, TypedProcedure, nobody}
use Rattle.run_machine.specs.Names.{Stored}
use Rattle.run_machine.specs.SameConfigurations.{same_stored}
use Rattle.run_machine.specs.StoredStep.{stored_begin}
use Rattle.run_machine.proofs.exported.SameConfigs.{same_is_equal}
use Rattle.run_unroller.specs.declared.causes.Cause.{Cause}
use Rattle.run_unroller.specs.declared.causes.Cause.TheVariants.{Full, Deep, Bits}
use Rattle.run_unroller.specs.Causes.{Brought, all_brought, first_cause, first_stop, join_cause, put_cause, step_cause}
use Rattle.run_unroller.specs.MergedLists.{held, merged_onto, put}
use Rattle.run_unroller.specs.RunLists.{RunList, begun}
use Rattle.run_unroller.specs.Unrolling.{Unrolling, unrolled}

abbrev place : Span
place = record { from = 0; to = 0 }

abbrev variable : Ty → Variable
variable ty = record { name = []; ty = ty }

abbrev number : ℕ → Form
number n = Form.number (finite (ratio (pos n) 1))

abbrev truth : Bool → Term
truth b = Term.truth (Cond.constant b)

abbrev acts : List Act → Acts
acts [] = Acts.done
acts (a ∷ rest) = Acts.next a (acts rest)

-- A coproc with `n` Boolean locals, a post and a body.
abbrev procedure : ℕ → Form → List Act → TypedProcedure
procedure n post body = record nobody { locals = replicate n (variable Ty.Bool); post = post; body = Some (acts body) }

-- A state of `n` Booleans, all false.
abbrev state : ℕ → List Val
state n = replicate n (Truth false)

-- The first of `m` steps that is stopped, and its cause, if the runs begin in the state of `n`
-- Booleans.
abbrev stop_of : TypedProcedure → ℕ → ℕ → Option (Cause × ℕ)
stop_of p n m = first_stop (p ∷ []) [] m (begun (stored_begin (p ∷ []) 0 (state n)))

-- The result of unrolling no steps.
abbrev at_once : TypedProcedure → Unrolling
at_once p = unrolled (p ∷ []) 0 [] 0 (begun (stored_begin (p ∷ []) 0 []))

-- ---- Deep: more than 512 values

-- A procedure with `n` locals that calls itself.
abbrev calls_itself : ℕ → TypedProcedure
calls_itself n = procedure n (number 0) (Act.call [] 0 [] place ∷ [])

-- With 200 locals the second call would make 600 values, and is stopped.
second_call_is_deep : stop_of (calls_itself 200) 200 2 ≡ Some (Deep, 2)
unfolding merged_onto joined scaled ratio gcd gcd_steps zeroʳ oneʳ zeroᵛ ◌*ʳ◌ leqʳ exact_product product_fits
second_call_is_deep = refl

-- With 2 locals it makes 6 values, and is not.
second_call_is_not_deep : stop_of (calls_itself 2) 2 2 ≡ None
unfolding merged_onto joined scaled ratio gcd gcd_steps zeroʳ oneʳ zeroᵛ ◌*ʳ◌ leqʳ exact_product product_fits
second_call_is_not_deep = refl

-- ---- Bits: a number in a step

-- The largest number of 127 bits, plus 1.
abbrev wide : Form
wide = Form.sum (number 170141183460469231731687303715884105727) (number 1)

-- A procedure that collects a reward.
abbrev collects : Form → TypedProcedure
collects f = procedure 0 (number 0) (Act.reward f place ∷ [])

-- A reward that overflows stops its step.
wide_reward_stops : stop_of (collects wide) 0 1 ≡ Some (Bits, 1)
unfolding merged_onto joined scaled ratio gcd gcd_steps zeroʳ oneʳ zeroᵛ ◌*ʳ◌ ◌+ʳ◌ ◌+ᵛ◌ exact_sum sum_fits exact_product product_fits
wide_reward_stops = refl

-- A reward of 1 does not.
small_reward_does_not_stop : stop_of (collects (number 1)) 0 1 ≡ None
unfolding merged_onto joined scaled ratio gcd gcd_steps zeroʳ oneʳ zeroᵛ ◌*ʳ◌ ◌+ʳ◌ ◌+ᵛ◌ exact_sum sum_fits exact_product product_fits
small_reward_does_not_stop = refl

-- ---- Bits: the product of a run's weight with that of an outcome

-- A procedure that draws two Booleans, each with these weights.
abbrev draws : Rational → Rational → TypedProcedure
draws w v = procedure 2 (number 0) (draw 0 ∷ draw 1 ∷ [])
  where
    draw : ℕ → Act
    draw x = Act.draw x ((w, truth true) ∷ (v, truth false) ∷ []) place

-- The weight 1/2^64, taken twice, has the denominator 2^128, which stops the second draw.
narrow_weights_stop : stop_of (draws (ratio (pos 1) 18446744073709551616) (ratio (pos 18446744073709551615) 18446744073709551616)) 2 2 ≡ Some (Bits, 2)
unfolding merged_onto joined scaled ratio gcd gcd_steps zeroʳ oneʳ zeroᵛ ◌*ʳ◌ exact_product product_fits
narrow_weights_stop = refl

-- The weight 1/2 does not.
even_weights_do_not_stop : stop_of (draws halfʳ halfʳ) 2 2 ≡ None
unfolding merged_onto joined scaled halfʳ ratio gcd gcd_steps zeroʳ oneʳ zeroᵛ ◌*ʳ◌ exact_product product_fits
even_weights_do_not_stop = refl

-- ---- Bits: the sum of the weights of merged runs

-- A procedure that tosses one variable twice, with this probability.
abbrev tosses : Rational → TypedProcedure
tosses w = procedure 1 (number 0) (toss ∷ toss ∷ [])
  where
    toss : Act
    toss = Act.toss 0 (Form.number (finite w)) place

-- The weights of the two runs with the value true have the denominator (2^62 - 1)^2: their sum
-- stops the second toss.
merged_weights_stop : stop_of (tosses (ratio (pos 1) 4611686018427387903)) 1 2 ≡ Some (Bits, 2)
unfolding merged_onto joined scaled ratio gcd gcd_steps zeroʳ oneʳ zeroᵛ oneᵛ negʳ minᵛ leqʳ leqᵛ compareʳ ◌*ʳ◌ ◌+ʳ◌ ◌-ʳ◌ exact_sum sum_fits exact_difference difference_fits exact_product product_fits exact_order order_fits
merged_weights_stop = refl

-- The weights 1/4 and 1/4 do not.
even_tosses_do_not_stop : stop_of (tosses halfʳ) 1 2 ≡ None
unfolding merged_onto joined scaled halfʳ ratio gcd gcd_steps zeroʳ oneʳ zeroᵛ oneᵛ negʳ minᵛ leqʳ leqᵛ compareʳ ◌*ʳ◌ ◌+ʳ◌ ◌-ʳ◌ exact_sum sum_fits exact_difference difference_fits exact_product product_fits exact_order order_fits
even_tosses_do_not_stop = refl

-- ---- Bits: adding the sums

-- A post that overflows stops the adding.
wide_post_stops : at_once (procedure 0 wide []) ≡ Unrolling.stopped Bits 1
unfolding merged_onto joined scaled ratio gcd gcd_steps zeroʳ oneʳ zeroᵛ ◌*ʳ◌ ◌+ʳ◌ ◌*ᵛ◌ ◌+ᵛ◌ infinite_times is_zeroʳ exact_sum sum_fits exact_product product_fits
wide_post_stops = refl

-- A post of 1 does not.
small_post_does_not_stop : (cause : Cause) (n : ℕ) → at_once (procedure 0 (number 1) []) ≡ Unrolling.stopped cause n → ⊥
unfolding merged_onto joined scaled ratio gcd gcd_steps zeroʳ oneʳ zeroᵛ ◌*ʳ◌ ◌+ʳ◌ ◌*ᵛ◌ ◌+ᵛ◌ infinite_times is_zeroʳ exact_sum sum_fits exact_product product_fits
small_post_does_not_stop cause n e = cc

-- ---- Full: more than 65,536 runs

-- A terminated run, after n decisions.
abbrev ended : ℕ → Stored
ended n = record { procedure = 0; items = []; state = []; frames = []; reward = zeroᵛ; turns = []; made = n }

-- `n` terminated runs of the weight `w`, after `k`, `k` + 1 and more decisions.
listed : Rational → ℕ → ℕ → RunList
listed w k zero = []
listed w k (suc n) = (w, ended k) ∷ listed w (suc k) n

none_listed : (w : Rational) → listed w 0 0 ≡ []
unfolding listed
none_listed w = refl

listed_length : (w : Rational) (k n : ℕ) → length (listed w k n) ≡ n
unfolding listed
listed_length w k zero = refl
listed_length w k (suc n) = ap suc (listed_length w (suc k) n)

apart : (m n : ℕ) → (m ≡ n → ⊥) → same_stored (ended m) (ended n) ≡ false
apart m n differ = go (same_stored (ended m) (ended n)) refl
  where
    go : (b : Bool) → same_stored (ended m) (ended n) ≡ b → b ≡ false
    go true e = absurd (differ (ap (λ (c : Stored). c.made) ((same_is_equal (ended m) (ended n)).0 e)))
    go false e = refl

otherwise : {A : Type 0} (b : Bool) (x y z : A) → b ≡ false → y ≡ z → (if b then x else y) ≡ z
otherwise false x y z e h = h
otherwise true x y z e h = absurd (cc)

none_held : (w : Rational) (k n m : ℕ) → k + n ≤ m → held same_stored (ended m) (listed w k n) ≡ None
unfolding listed
none_held w k zero m h = refl
none_held w k (suc n) m h = otherwise (same_stored (ended m) (ended k)) _ _ _ (apart m k (λ e. absurd (omega arith))) (none_held w (suc k) n m (omega arith))

put_last : (w : Rational) (k n m : ℕ) → m ≡ k + n → put same_stored (w, ended m) (listed w k n) ≡ listed w k (suc n)
unfolding listed
put_last w k zero m e = let is : m ≡ k = omega arith in ap (λ i. (w, ended i) ∷ []) is
put_last w k (suc n) m e = otherwise (same_stored (ended m) (ended k)) _ _ _ (apart m k (λ d. absurd (omega arith))) (ap (λ es. (w, ended k) ∷ es) (put_last w (suc k) n m (omega arith)))

-- The cause that stops a run of weight 1 from being added to a list without an equal one.
join_by : (es : RunList) (c : Stored) (o : Option Cause) → held same_stored c es ≡ None → put_cause (length es) (oneʳ *ʳ oneʳ) None ≡ o → join_cause es oneʳ (oneʳ, c) ≡ o
unfolding exact_product product_fits oneʳ ratio gcd gcd_steps
join_by es c o h p = subst (λ x. put_cause (length es) (oneʳ *ʳ oneʳ) x ≡ o) (sym h) p

room_for : (n : ℕ) (w : Rational) → n < 65536 → put_cause n w None ≡ None
room_for n w h = go (nat_lt n 65536) refl
  where
    go : (b : Bool) → nat_lt n 65536 ≡ b → (if b then None else Some Full) ≡ None
    go true e = refl
    go false e = let many : 65536 ≤ n = grind (arith, e) in absurd (omega arith)

no_room_for : (n : ℕ) (w : Rational) → n ≡ 65536 → put_cause n w None ≡ Some Full
no_room_for n w e = subst (λ m. put_cause m w None ≡ Some Full) (sym e) refl

joins_next : (k : ℕ) → k < 65536 → join_cause (listed (oneʳ *ʳ oneʳ) 0 k) oneʳ (oneʳ, ended k) ≡ None
joins_next k h = join_by (listed (oneʳ *ʳ oneʳ) 0 k) (ended k) None (none_held (oneʳ *ʳ oneʳ) 0 k k (omega arith)) (room_for (length (listed (oneʳ *ʳ oneʳ) 0 k)) (oneʳ *ʳ oneʳ) (omega (arith, listed_length (oneʳ *ʳ oneʳ) 0 k, h)))

next_cause : (a b c : Option Cause) → a ≡ None → b ≡ c → option_or a b ≡ c
next_cause None b c e h = h
next_cause (Some x) b c e h = absurd (cc)

one_more : (n k : ℕ) (o : Option Cause) → k < 65536 → first_cause (listed (oneʳ *ʳ oneʳ) 0 (suc k)) (all_brought [] [] (listed oneʳ (suc k) n)) ≡ o → first_cause (listed (oneʳ *ʳ oneʳ) 0 k) (all_brought [] [] (listed oneʳ k (suc n))) ≡ o
unfolding listed
one_more n k o h more = next_cause (join_cause (listed (oneʳ *ʳ oneʳ) 0 k) oneʳ (oneʳ, ended k)) (first_cause (put same_stored (oneʳ *ʳ oneʳ, ended k) (listed (oneʳ *ʳ oneʳ) 0 k)) (all_brought [] [] (listed oneʳ (suc k) n))) o (joins_next k h) (subst (λ es. first_cause es (all_brought [] [] (listed oneʳ (suc k) n)) ≡ o) (sym (put_last (oneʳ *ʳ oneʳ) 0 k k (omega arith))) more)

fit : (n k : ℕ) → k + n ≤ 65536 → first_cause (listed (oneʳ *ʳ oneʳ) 0 k) (all_brought [] [] (listed oneʳ k n)) ≡ None
unfolding listed
fit zero k h = refl
fit (suc n) k h = one_more n k None (omega arith) (fit n (suc k) (omega arith))

last_is_full : (es : RunList) (c : Stored) → join_cause es oneʳ (oneʳ, c) ≡ Some Full → first_cause es (Brought.joins oneʳ (oneʳ, c) ∷ []) ≡ Some Full
last_is_full es c e = ap (λ o. option_or o None) e

overfill : (n k : ℕ) → k + n ≡ 65536 → first_cause (listed (oneʳ *ʳ oneʳ) 0 k) (all_brought [] [] (listed oneʳ k (suc n))) ≡ Some Full
unfolding listed
overfill zero k h = last_is_full (listed (oneʳ *ʳ oneʳ) 0 k) (ended k) (join_by (listed (oneʳ *ʳ oneʳ) 0 k) (ended k) (Some Full) (none_held (oneʳ *ʳ oneʳ) 0 k k (omega arith)) (no_room_for (length (listed (oneʳ *ʳ oneʳ) 0 k)) (oneʳ *ʳ oneʳ) (omega (arith, listed_length (oneʳ *ʳ oneʳ) 0 k, h))))
overfill (suc n) k h = one_more (suc n) k (Some Full) (omega arith) (overfill n (suc k) (omega arith))

-- 65,537 different terminated runs are more than a list may have.
one_run_more_stops : step_cause [] [] (listed oneʳ 0 65537) ≡ Some Full
one_run_more_stops = subst (λ es. first_cause es (all_brought [] [] (listed oneʳ 0 65537)) ≡ Some Full) (none_listed (oneʳ *ʳ oneʳ)) (overfill 65536 0 refl)

-- 65,536 of them are allowed.
as_many_runs_do_not_stop : step_cause [] [] (listed oneʳ 0 65536) ≡ None
as_many_runs_do_not_stop = subst (λ es. first_cause es (all_brought [] [] (listed oneʳ 0 65536)) ≡ None) (none_listed (oneʳ *ʳ oneʳ)) (fit 65536 0 (omega arith))
