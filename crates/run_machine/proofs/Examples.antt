-- Worked runs, computed by the definitions.
use Rattle.std.proofs.Common.{◌≡◌, ℕ, refl, Bool, true, false, List, [], ◌∷◌, Some, None, pos, map, length}
use Rattle.std.specs.Prelude.{ℤ}
use Prim.Native.Nat.{zero, suc}
use Rattle.heyvl_num.specs.Gcd.{gcd, gcd_steps}
use Rattle.heyvl_num.specs.Rational.{Rational, ratio, zeroʳ, oneʳ, halfʳ, leqʳ, compareʳ, negʳ, ◌+ʳ◌, ◌*ʳ◌, ◌-ʳ◌}
use Rattle.heyvl_num.specs.Value.{Value, zeroᵛ, oneᵛ, ◌+ᵛ◌, ◌*ᵛ◌, infinite_times, is_zeroʳ, leqᵛ}
use Rattle.heyvl_num.specs.Value.Value.{finite, infinite}
use Rattle.heyvl_num.specs.ValueOperators.{minᵛ, monusᵛ}
use Rattle.heyvl_num.specs.WeightedSums.{weighted_sum, scaled}
use Rattle.heyvl_places.specs.declared.spans.Span.{Span}
use Rattle.heylo_formula.specs.Formula.{Form, Cond, Term}
use Rattle.heylo_formula.specs.declared.types.Ty.{Ty}
use Rattle.heylo_formula.specs.declared.values.Val.{Val}
use Rattle.heylo_formula.specs.declared.values.Val.TheVariants.{Truth, Num}
use Rattle.heyvl_acts.specs.Acts.{Head, Act, Acts, Arms, Variable, TypedProcedure}
use Rattle.run_machine.specs.Configurations.{begin}
use Rattle.run_machine.specs.Step.{Decision, step}
use Rattle.run_machine.specs.Scheduler.{Tree, Forest}
use Rattle.run_machine.specs.Runs.{runs}
use Rattle.run_machine.specs.Sums.{sum_of, turns_sum}

-- The numerator and the denominator of a value; 1 and 0 for infinity.
abbrev parts : Value → ℤ × ℕ
parts (finite x) = (x.num, x.den)
parts infinite = (pos 1, 0)

abbrev place : Span
place = record { from = 0; to = 0 }

abbrev variable : Ty → Variable
variable ty = record { name = []; ty = ty }

abbrev whole : ℕ → Rational
whole n = ratio (pos n) 1

abbrev number : ℕ → Form
number n = Form.number (finite (whole n))

abbrev plus_one : ℕ → Term
plus_one x = Term.number (Form.sum (Form.variable x) (number 1))

abbrev truth : Bool → Term
truth b = Term.truth (Cond.constant b)

abbrev flip : List (Rational × Term)
flip = (halfʳ, truth true) ∷ (halfʳ, truth false) ∷ []

abbrev acts : List Act → Acts
acts [] = Acts.done
acts (a ∷ rest) = Acts.next a (acts rest)

abbrev procedure : List Ty → List Ty → List Ty → Form → List Act → TypedProcedure
procedure ins outs locals post body = record { name = []; co = true; weak = false; inputs = map variable ins; outputs = map variable outs; locals = map variable locals; pre = number 0; post = post; body = Some (acts body); loops = 0; span = place }

abbrev head : ℕ → Cond → Head
head n g = record { number = n; k = 1; inv = number 0; guard = g; rank = None; scope = []; span = place }

abbrev uint : ℕ → Val
uint n = Num (whole n)

abbrev sum_after : ℕ → List TypedProcedure → List Val → Form → Tree → ℤ × ℕ
sum_after n ps s post t = parts (sum_of true post (runs ps n (begin ps 0 s) t))

abbrev weak_after : ℕ → List TypedProcedure → List Val → Form → Tree → ℤ × ℕ
weak_after n ps s post t = parts (sum_of false post (runs ps n (begin ps 0 s) t))

abbrev turns_after : ℕ → List TypedProcedure → List Val → ℕ → Tree → ℤ × ℕ
turns_after n ps s number t = parts (turns_sum number (runs ps n (begin ps 0 s) t))

-- ---- A coin

abbrev coin : TypedProcedure
coin = procedure [] (Ty.Bool ∷ []) [] (Form.iverson (Cond.flag 0)) (Act.draw 0 flip place ∷ [])

coin_is_half : sum_after 1 (coin ∷ []) (Truth true ∷ []) coin.post Tree.leaf ≡ (pos 1, 2)
unfolding runs weighted_sum scaled halfʳ ratio gcd gcd_steps zeroʳ oneʳ zeroᵛ oneᵛ ◌+ʳ◌ ◌*ʳ◌ ◌-ʳ◌ ◌+ᵛ◌ ◌*ᵛ◌ infinite_times is_zeroʳ leqʳ leqᵛ compareʳ
coin_is_half = refl

coin_before_its_flip : sum_after 0 (coin ∷ []) (Truth true ∷ []) coin.post Tree.leaf ≡ (pos 0, 1)
unfolding runs weighted_sum scaled halfʳ ratio gcd gcd_steps zeroʳ oneʳ zeroᵛ oneᵛ ◌+ʳ◌ ◌*ʳ◌ ◌-ʳ◌ ◌+ᵛ◌ ◌*ᵛ◌ infinite_times is_zeroʳ leqʳ leqᵛ compareʳ
coin_before_its_flip = refl

-- ---- A toss with one probability if a Bool holds, and another if it does not

abbrev lot : Form → Form → TypedProcedure
lot a b = procedure (Ty.Bool ∷ []) (Ty.Bool ∷ []) [] (Form.select (Cond.flag 1) (number 1) (number 4)) (Act.toss 1 (Form.select (Cond.flag 0) a b) place ∷ [])

abbrev third : Form
third = Form.number (finite (ratio (pos 1) 3))

lot_after : Form → Form → Bool → List ((ℤ × ℕ) × List Val)
lot_after a b t = map (λ x. ((x.0.num, x.0.den), x.1.state)) (step (lot a b ∷ []) (begin (lot a b ∷ []) 0 (Truth t ∷ Truth false ∷ [])) Decision.none)

lot_below_one : lot_after third (number 2) true ≡ ((pos 1, 3), Truth true ∷ Truth true ∷ []) ∷ ((pos 2, 3), Truth true ∷ Truth false ∷ []) ∷ []
unfolding lot_after ratio gcd gcd_steps oneʳ oneᵛ ◌-ʳ◌ ◌+ʳ◌ negʳ leqʳ leqᵛ minᵛ
lot_below_one = refl

lot_above_one : lot_after third (number 2) false ≡ ((pos 1, 1), Truth false ∷ Truth true ∷ []) ∷ ((pos 0, 1), Truth false ∷ Truth false ∷ []) ∷ []
unfolding lot_after ratio gcd gcd_steps oneʳ oneᵛ ◌-ʳ◌ ◌+ʳ◌ negʳ leqʳ leqᵛ minᵛ
lot_above_one = refl

lot_at_one : lot_after (number 1) (number 0) true ≡ ((pos 1, 1), Truth true ∷ Truth true ∷ []) ∷ ((pos 0, 1), Truth true ∷ Truth false ∷ []) ∷ []
unfolding lot_after ratio gcd gcd_steps oneʳ oneᵛ ◌-ʳ◌ ◌+ʳ◌ negʳ leqʳ leqᵛ minᵛ
lot_at_one = refl

lot_is_three : sum_after 1 (lot third (number 2) ∷ []) (Truth true ∷ Truth false ∷ []) (lot third (number 2)).post Tree.leaf ≡ (pos 3, 1)
unfolding runs weighted_sum scaled ratio gcd gcd_steps zeroʳ oneʳ zeroᵛ oneᵛ ◌+ʳ◌ ◌*ʳ◌ ◌-ʳ◌ negʳ ◌+ᵛ◌ ◌*ᵛ◌ infinite_times is_zeroʳ leqʳ leqᵛ minᵛ
lot_is_three = refl

-- ---- Two dice: s = a + b, on average 7

abbrev faces : ℕ → ℕ → List (Rational × Term)
faces k zero = []
faces k (suc n) = (ratio (pos 1) 6, Term.number (number k)) ∷ faces (suc k) n

abbrev dice : TypedProcedure
dice = procedure [] (Ty.UInt ∷ []) (Ty.UInt ∷ Ty.UInt ∷ []) (Form.variable 0) (Act.draw 1 (faces 1 6) place ∷ Act.draw 2 (faces 1 6) place ∷ Act.set 0 (Term.number (Form.sum (Form.variable 1) (Form.variable 2))) place ∷ [])

two_dice_are_seven : sum_after 3 (dice ∷ []) (uint 0 ∷ uint 0 ∷ uint 0 ∷ []) dice.post Tree.leaf ≡ (pos 7, 1)
unfolding runs weighted_sum scaled halfʳ ratio gcd gcd_steps zeroʳ oneʳ zeroᵛ oneᵛ ◌+ʳ◌ ◌*ʳ◌ ◌-ʳ◌ ◌+ᵛ◌ ◌*ᵛ◌ infinite_times is_zeroʳ leqʳ leqᵛ compareʳ
two_dice_are_seven = refl

-- ---- A geometric loop: variables init_c, c, cont and stop

abbrev geo_body : Acts
geo_body = acts (Act.draw 3 flip place ∷ Act.ifs (Arms.arm (Cond.flag 3) (acts (Act.set 2 (truth false) place ∷ [])) Arms.no_arm) (acts (Act.set 1 (plus_one 1) place ∷ [])) place ∷ [])

abbrev geo : TypedProcedure
geo = procedure (Ty.UInt ∷ []) (Ty.UInt ∷ []) (Ty.Bool ∷ Ty.Bool ∷ []) (Form.variable 1) (Act.set 1 (Term.number (Form.variable 0)) place ∷ Act.set 2 (truth true) place ∷ Act.loop (head 1 (Cond.flag 2)) geo_body ∷ [])

abbrev geo_start : List Val
geo_start = uint 0 ∷ uint 0 ∷ Truth false ∷ Truth false ∷ []

geo_post_0 : sum_after 0 (geo ∷ []) geo_start geo.post Tree.leaf ≡ (pos 0, 1)
unfolding runs weighted_sum scaled halfʳ ratio gcd gcd_steps zeroʳ oneʳ zeroᵛ oneᵛ ◌+ʳ◌ ◌*ʳ◌ ◌-ʳ◌ ◌+ᵛ◌ ◌*ᵛ◌ infinite_times is_zeroʳ leqʳ leqᵛ compareʳ
geo_post_0 = refl

geo_weak_0 : weak_after 0 (geo ∷ []) geo_start geo.post Tree.leaf ≡ (pos 1, 1)
unfolding runs weighted_sum scaled halfʳ ratio gcd gcd_steps zeroʳ oneʳ zeroᵛ oneᵛ ◌+ʳ◌ ◌*ʳ◌ ◌-ʳ◌ ◌+ᵛ◌ ◌*ᵛ◌ infinite_times is_zeroʳ leqʳ leqᵛ compareʳ
geo_weak_0 = refl

geo_turns_0 : turns_after 0 (geo ∷ []) geo_start 1 Tree.leaf ≡ (pos 0, 1)
unfolding runs weighted_sum scaled halfʳ ratio gcd gcd_steps zeroʳ oneʳ zeroᵛ oneᵛ ◌+ʳ◌ ◌*ʳ◌ ◌-ʳ◌ ◌+ᵛ◌ ◌*ᵛ◌ infinite_times is_zeroʳ leqʳ leqᵛ compareʳ
geo_turns_0 = refl

geo_post_7 : sum_after 7 (geo ∷ []) geo_start geo.post Tree.leaf ≡ (pos 0, 1)
unfolding runs weighted_sum scaled halfʳ ratio gcd gcd_steps zeroʳ oneʳ zeroᵛ oneᵛ ◌+ʳ◌ ◌*ʳ◌ ◌-ʳ◌ ◌+ᵛ◌ ◌*ᵛ◌ infinite_times is_zeroʳ leqʳ leqᵛ compareʳ
geo_post_7 = refl

geo_weak_7 : weak_after 7 (geo ∷ []) geo_start geo.post Tree.leaf ≡ (pos 1, 2)
unfolding runs weighted_sum scaled halfʳ ratio gcd gcd_steps zeroʳ oneʳ zeroᵛ oneᵛ ◌+ʳ◌ ◌*ʳ◌ ◌-ʳ◌ ◌+ᵛ◌ ◌*ᵛ◌ infinite_times is_zeroʳ leqʳ leqᵛ compareʳ
geo_weak_7 = refl

geo_turns_7 : turns_after 7 (geo ∷ []) geo_start 1 Tree.leaf ≡ (pos 3, 2)
unfolding runs weighted_sum scaled halfʳ ratio gcd gcd_steps zeroʳ oneʳ zeroᵛ oneᵛ ◌+ʳ◌ ◌*ʳ◌ ◌-ʳ◌ ◌+ᵛ◌ ◌*ᵛ◌ infinite_times is_zeroʳ leqʳ leqᵛ compareʳ
geo_turns_7 = refl

geo_post_11 : sum_after 11 (geo ∷ []) geo_start geo.post Tree.leaf ≡ (pos 1, 4)
unfolding runs weighted_sum scaled halfʳ ratio gcd gcd_steps zeroʳ oneʳ zeroᵛ oneᵛ ◌+ʳ◌ ◌*ʳ◌ ◌-ʳ◌ ◌+ᵛ◌ ◌*ᵛ◌ infinite_times is_zeroʳ leqʳ leqᵛ compareʳ
geo_post_11 = refl

geo_weak_11 : weak_after 11 (geo ∷ []) geo_start geo.post Tree.leaf ≡ (pos 1, 2)
unfolding runs weighted_sum scaled halfʳ ratio gcd gcd_steps zeroʳ oneʳ zeroᵛ oneᵛ ◌+ʳ◌ ◌*ʳ◌ ◌-ʳ◌ ◌+ᵛ◌ ◌*ᵛ◌ infinite_times is_zeroʳ leqʳ leqᵛ compareʳ
geo_weak_11 = refl

geo_turns_11 : turns_after 11 (geo ∷ []) geo_start 1 Tree.leaf ≡ (pos 7, 4)
unfolding runs weighted_sum scaled halfʳ ratio gcd gcd_steps zeroʳ oneʳ zeroᵛ oneᵛ ◌+ʳ◌ ◌*ʳ◌ ◌-ʳ◌ ◌+ᵛ◌ ◌*ᵛ◌ infinite_times is_zeroʳ leqʳ leqᵛ compareʳ
geo_turns_11 = refl

-- ---- A guess of a coin, under different schedulers

abbrev guess : TypedProcedure
guess = procedure [] (Ty.Bool ∷ Ty.Bool ∷ []) [] (Form.iverson (Cond.same (Cond.flag 0) (Cond.flag 1))) (Act.draw 0 flip place ∷ Act.any 1 true Ty.Bool place ∷ [])

abbrev guess_start : List Val
guess_start = Truth false ∷ Truth false ∷ []

abbrev decides : Decision → Tree
decides d = Tree.node d Forest.no_trees

abbrev after_flip : Decision → Decision → Tree
after_flip heads tails = Tree.node Decision.none (Forest.trees (decides heads) (Forest.trees (decides tails) Forest.no_trees))

guess_always_true : sum_after 2 (guess ∷ []) guess_start guess.post (after_flip (Decision.given (Truth true)) (Decision.given (Truth true))) ≡ (pos 1, 2)
unfolding runs weighted_sum scaled halfʳ ratio gcd gcd_steps zeroʳ oneʳ zeroᵛ oneᵛ ◌+ʳ◌ ◌*ʳ◌ ◌-ʳ◌ ◌+ᵛ◌ ◌*ᵛ◌ infinite_times is_zeroʳ leqʳ leqᵛ compareʳ
guess_always_true = refl

guess_undecided : sum_after 2 (guess ∷ []) guess_start guess.post Tree.leaf ≡ (pos 1, 2)
unfolding runs weighted_sum scaled halfʳ ratio gcd gcd_steps zeroʳ oneʳ zeroᵛ oneᵛ ◌+ʳ◌ ◌*ʳ◌ ◌-ʳ◌ ◌+ᵛ◌ ◌*ᵛ◌ infinite_times is_zeroʳ leqʳ leqᵛ compareʳ
guess_undecided = refl

guess_that_sees : sum_after 2 (guess ∷ []) guess_start guess.post (after_flip (Decision.given (Truth true)) (Decision.given (Truth false))) ≡ (pos 1, 1)
unfolding runs weighted_sum scaled halfʳ ratio gcd gcd_steps zeroʳ oneʳ zeroᵛ oneᵛ ◌+ʳ◌ ◌*ʳ◌ ◌-ʳ◌ ◌+ᵛ◌ ◌*ᵛ◌ infinite_times is_zeroʳ leqʳ leqᵛ compareʳ
guess_that_sees = refl

guess_that_errs : sum_after 2 (guess ∷ []) guess_start guess.post (after_flip (Decision.given (Truth false)) (Decision.given (Truth true))) ≡ (pos 0, 1)
unfolding runs weighted_sum scaled halfʳ ratio gcd gcd_steps zeroʳ oneʳ zeroᵛ oneᵛ ◌+ʳ◌ ◌*ʳ◌ ◌-ʳ◌ ◌+ᵛ◌ ◌*ᵛ◌ infinite_times is_zeroʳ leqʳ leqᵛ compareʳ
guess_that_errs = refl

ill_typed_is_false : sum_after 2 (guess ∷ []) guess_start guess.post (after_flip (Decision.given (uint 1)) (Decision.side false)) ≡ (pos 1, 2)
unfolding runs weighted_sum scaled halfʳ ratio gcd gcd_steps zeroʳ oneʳ zeroᵛ oneᵛ ◌+ʳ◌ ◌*ʳ◌ ◌-ʳ◌ ◌+ᵛ◌ ◌*ᵛ◌ infinite_times is_zeroʳ leqʳ leqᵛ compareʳ
ill_typed_is_false = refl

-- ---- A call with two outputs: b, a = pair(3), where pair gives x and x + 1; the post is a + 10*b

abbrev pair : TypedProcedure
pair = procedure (Ty.UInt ∷ []) (Ty.UInt ∷ Ty.UInt ∷ []) [] (number 0) (Act.set 1 (Term.number (Form.variable 0)) place ∷ Act.set 2 (plus_one 0) place ∷ [])

abbrev caller : TypedProcedure
caller = procedure [] (Ty.UInt ∷ Ty.UInt ∷ []) [] (Form.sum (Form.variable 0) (Form.scale (whole 10) (Form.variable 1))) (Act.call (1 ∷ 0 ∷ []) 1 (Term.number (number 3) ∷ []) place ∷ [])

call_under_way : sum_after 5 (caller ∷ pair ∷ []) (uint 0 ∷ uint 0 ∷ []) caller.post Tree.leaf ≡ (pos 0, 1)
unfolding runs weighted_sum scaled halfʳ ratio gcd gcd_steps zeroʳ oneʳ zeroᵛ oneᵛ ◌+ʳ◌ ◌*ʳ◌ ◌-ʳ◌ ◌+ᵛ◌ ◌*ᵛ◌ infinite_times is_zeroʳ leqʳ leqᵛ compareʳ
call_under_way = refl

call_with_two_outputs : sum_after 6 (caller ∷ pair ∷ []) (uint 0 ∷ uint 0 ∷ []) caller.post Tree.leaf ≡ (pos 34, 1)
unfolding runs weighted_sum scaled halfʳ ratio gcd gcd_steps zeroʳ oneʳ zeroᵛ oneᵛ ◌+ʳ◌ ◌*ʳ◌ ◌-ʳ◌ ◌+ᵛ◌ ◌*ᵛ◌ infinite_times is_zeroʳ leqʳ leqᵛ compareʳ
call_with_two_outputs = refl

-- ---- Recursion: y counts down from n, two calls deep; each call makes one iteration of the loop
-- before it

abbrev once : Acts
once = acts (Act.set 2 (truth false) place ∷ [])

abbrev down : TypedProcedure
down = procedure (Ty.UInt ∷ []) (Ty.UInt ∷ []) (Ty.Bool ∷ []) (Form.variable 1) (Act.ifs (Arms.arm (Cond.le (Form.variable 0) (number 0)) (acts (Act.set 1 (Term.number (number 0)) place ∷ [])) Arms.no_arm) (acts (Act.call (1 ∷ []) 0 (Term.number (Form.cut (Form.variable 0) (number 1)) ∷ []) place ∷ Act.set 1 (plus_one 1) place ∷ [])) place ∷ [])

recursion_of_depth_two : sum_after 12 (down ∷ []) (uint 2 ∷ uint 0 ∷ Truth false ∷ []) down.post Tree.leaf ≡ (pos 2, 1)
unfolding runs weighted_sum scaled halfʳ ratio gcd gcd_steps zeroʳ oneʳ zeroᵛ oneᵛ ◌+ʳ◌ ◌*ʳ◌ ◌-ʳ◌ ◌+ᵛ◌ ◌*ᵛ◌ infinite_times is_zeroʳ leqʳ leqᵛ compareʳ negʳ monusᵛ
recursion_of_depth_two = refl

recursion_under_way : sum_after 11 (down ∷ []) (uint 2 ∷ uint 0 ∷ Truth false ∷ []) down.post Tree.leaf ≡ (pos 0, 1)
unfolding runs weighted_sum scaled halfʳ ratio gcd gcd_steps zeroʳ oneʳ zeroᵛ oneᵛ ◌+ʳ◌ ◌*ʳ◌ ◌-ʳ◌ ◌+ᵛ◌ ◌*ᵛ◌ infinite_times is_zeroʳ leqʳ leqᵛ compareʳ negʳ monusᵛ
recursion_under_way = refl

-- ---- A loop with an if, in a called procedure: its iteration is not counted, its rewards are

abbrev worker : TypedProcedure
worker = procedure [] [] (Ty.Bool ∷ []) (number 0) (Act.set 0 (truth true) place ∷ Act.loop (head 1 (Cond.flag 0)) (acts (Act.ifs (Arms.arm (Cond.flag 0) (acts (Act.set 0 (truth false) place ∷ [])) Arms.no_arm) (acts []) place ∷ Act.reward (number 5) place ∷ [])) ∷ [])

abbrev manager : TypedProcedure
manager = procedure [] [] [] (number 1) (Act.call [] 1 [] place ∷ [])

called_loop_rewards : sum_after 8 (manager ∷ worker ∷ []) [] manager.post Tree.leaf ≡ (pos 6, 1)
unfolding runs weighted_sum scaled halfʳ ratio gcd gcd_steps zeroʳ oneʳ zeroᵛ oneᵛ ◌+ʳ◌ ◌*ʳ◌ ◌-ʳ◌ ◌+ᵛ◌ ◌*ᵛ◌ infinite_times is_zeroʳ leqʳ leqᵛ compareʳ
called_loop_rewards = refl

called_loop_is_not_counted : turns_after 8 (manager ∷ worker ∷ []) [] 1 Tree.leaf ≡ (pos 0, 1)
unfolding runs weighted_sum scaled halfʳ ratio gcd gcd_steps zeroʳ oneʳ zeroᵛ oneᵛ ◌+ʳ◌ ◌*ʳ◌ ◌-ʳ◌ ◌+ᵛ◌ ◌*ᵛ◌ infinite_times is_zeroʳ leqʳ leqᵛ compareʳ
called_loop_is_not_counted = refl

own_loop_is_counted : turns_after 8 (worker ∷ []) (Truth false ∷ []) 1 Tree.leaf ≡ (pos 1, 1)
unfolding runs weighted_sum scaled halfʳ ratio gcd gcd_steps zeroʳ oneʳ zeroᵛ oneᵛ ◌+ʳ◌ ◌*ʳ◌ ◌-ʳ◌ ◌+ᵛ◌ ◌*ᵛ◌ infinite_times is_zeroʳ leqʳ leqᵛ compareʳ
own_loop_is_counted = refl

-- A loop around a recursive call: each of the two calls makes one iteration

abbrev turning : TypedProcedure
turning = procedure (Ty.Bool ∷ []) [] (Ty.Bool ∷ []) (number 0) (Act.set 1 (truth true) place ∷ Act.loop (head 1 (Cond.flag 1)) (acts (Act.set 1 (truth false) place ∷ [])) ∷ Act.ifs (Arms.arm (Cond.flag 0) (acts (Act.call [] 0 (truth false ∷ []) place ∷ [])) Arms.no_arm) (acts []) place ∷ [])

recursive_loop_is_counted : turns_after 20 (turning ∷ []) (Truth true ∷ Truth false ∷ []) 1 Tree.leaf ≡ (pos 2, 1)
unfolding runs weighted_sum scaled halfʳ ratio gcd gcd_steps zeroʳ oneʳ zeroᵛ oneᵛ ◌+ʳ◌ ◌*ʳ◌ ◌-ʳ◌ ◌+ᵛ◌ ◌*ᵛ◌ infinite_times is_zeroʳ leqʳ leqᵛ compareʳ
recursive_loop_is_counted = refl

-- ---- A pick each way, a part of weight 0, and a loop whose guard fails at once

abbrev either : TypedProcedure
either = procedure [] (Ty.UInt ∷ []) [] (Form.variable 0) (Act.pick true (acts (Act.set 0 (Term.number (number 1)) place ∷ [])) (acts (Act.set 0 (Term.number (number 2)) place ∷ [])) place ∷ [])

pick_left : sum_after 2 (either ∷ []) (uint 0 ∷ []) either.post (decides (Decision.side true)) ≡ (pos 1, 1)
unfolding runs weighted_sum scaled halfʳ ratio gcd gcd_steps zeroʳ oneʳ zeroᵛ oneᵛ ◌+ʳ◌ ◌*ʳ◌ ◌-ʳ◌ ◌+ᵛ◌ ◌*ᵛ◌ infinite_times is_zeroʳ leqʳ leqᵛ compareʳ
pick_left = refl

pick_right : sum_after 2 (either ∷ []) (uint 0 ∷ []) either.post (decides (Decision.side false)) ≡ (pos 2, 1)
unfolding runs weighted_sum scaled halfʳ ratio gcd gcd_steps zeroʳ oneʳ zeroᵛ oneᵛ ◌+ʳ◌ ◌*ʳ◌ ◌-ʳ◌ ◌+ᵛ◌ ◌*ᵛ◌ infinite_times is_zeroʳ leqʳ leqᵛ compareʳ
pick_right = refl

pick_undecided : sum_after 2 (either ∷ []) (uint 0 ∷ []) either.post Tree.leaf ≡ (pos 1, 1)
unfolding runs weighted_sum scaled halfʳ ratio gcd gcd_steps zeroʳ oneʳ zeroᵛ oneᵛ ◌+ʳ◌ ◌*ʳ◌ ◌-ʳ◌ ◌+ᵛ◌ ◌*ᵛ◌ infinite_times is_zeroʳ leqʳ leqᵛ compareʳ
pick_undecided = refl

pick_ill_typed : sum_after 2 (either ∷ []) (uint 0 ∷ []) either.post (decides (Decision.given (Truth true))) ≡ (pos 1, 1)
unfolding runs weighted_sum scaled halfʳ ratio gcd gcd_steps zeroʳ oneʳ zeroᵛ oneᵛ ◌+ʳ◌ ◌*ʳ◌ ◌-ʳ◌ ◌+ᵛ◌ ◌*ᵛ◌ infinite_times is_zeroʳ leqʳ leqᵛ compareʳ
pick_ill_typed = refl

abbrev weightless : TypedProcedure
weightless = procedure [] (Ty.UInt ∷ []) [] (Form.variable 0) (Act.draw 0 ((zeroʳ, Term.number (number 5)) ∷ (oneʳ, Term.number (number 7)) ∷ []) place ∷ [])

part_of_weight_zero_is_a_run : length (runs (weightless ∷ []) 1 (begin (weightless ∷ []) 0 (uint 0 ∷ [])) Tree.leaf) ≡ 2
unfolding runs weighted_sum scaled halfʳ ratio gcd gcd_steps zeroʳ oneʳ zeroᵛ oneᵛ ◌+ʳ◌ ◌*ʳ◌ ◌-ʳ◌ ◌+ᵛ◌ ◌*ᵛ◌ infinite_times is_zeroʳ leqʳ leqᵛ compareʳ
part_of_weight_zero_is_a_run = refl

part_of_weight_zero_adds_nothing : sum_after 1 (weightless ∷ []) (uint 0 ∷ []) weightless.post Tree.leaf ≡ (pos 7, 1)
unfolding runs weighted_sum scaled halfʳ ratio gcd gcd_steps zeroʳ oneʳ zeroᵛ oneᵛ ◌+ʳ◌ ◌*ʳ◌ ◌-ʳ◌ ◌+ᵛ◌ ◌*ᵛ◌ infinite_times is_zeroʳ leqʳ leqᵛ compareʳ
part_of_weight_zero_adds_nothing = refl

abbrev idle : TypedProcedure
idle = procedure [] [] [] (number 1) (Act.loop (head 1 (Cond.constant false)) (acts []) ∷ [])

failing_guard_takes_a_step : weak_after 0 (idle ∷ []) [] (number 3) Tree.leaf ≡ (pos 1, 1)
unfolding runs weighted_sum scaled halfʳ ratio gcd gcd_steps zeroʳ oneʳ zeroᵛ oneᵛ ◌+ʳ◌ ◌*ʳ◌ ◌-ʳ◌ ◌+ᵛ◌ ◌*ᵛ◌ infinite_times is_zeroʳ leqʳ leqᵛ compareʳ
failing_guard_takes_a_step = refl

failing_guard_ends : sum_after 1 (idle ∷ []) [] (number 3) Tree.leaf ≡ (pos 3, 1)
unfolding runs weighted_sum scaled halfʳ ratio gcd gcd_steps zeroʳ oneʳ zeroᵛ oneᵛ ◌+ʳ◌ ◌*ʳ◌ ◌-ʳ◌ ◌+ᵛ◌ ◌*ᵛ◌ infinite_times is_zeroʳ leqʳ leqᵛ compareʳ
failing_guard_ends = refl

failing_guard_makes_no_turn : turns_after 1 (idle ∷ []) [] 1 Tree.leaf ≡ (pos 0, 1)
unfolding runs weighted_sum scaled halfʳ ratio gcd gcd_steps zeroʳ oneʳ zeroᵛ oneᵛ ◌+ʳ◌ ◌*ʳ◌ ◌-ʳ◌ ◌+ᵛ◌ ◌*ᵛ◌ infinite_times is_zeroʳ leqʳ leqᵛ compareʳ
failing_guard_makes_no_turn = refl
