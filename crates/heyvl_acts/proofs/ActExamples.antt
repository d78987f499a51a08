-- The meaning of acts, worked out by hand for each kind of act, and for three small procedures.
use Rattle.std.proofs.Common.{◌≡◌, refl, ℕ, Bool, true, false, List, [], ◌∷◌}
use Rattle.std.specs.Prelude.{pos, negsuc, Option, Some, None, ℤ}
use Prim.Native.Nat.{zero, suc}
use Rattle.heyvl_num.specs.Gcd.{gcd, gcd_steps}
use Rattle.heyvl_num.specs.Rational.{Rational, ratio, zeroʳ, oneʳ, ◌+ʳ◌, ◌-ʳ◌, ◌*ʳ◌, negʳ, leqʳ}
use Rattle.heyvl_num.specs.Value.{Value, zeroᵛ, oneᵛ, ◌+ᵛ◌, ◌*ᵛ◌, infinite_times, is_zeroʳ, leqᵛ}
use Rattle.heyvl_num.specs.Value.Value.{finite, infinite}
use Rattle.heyvl_num.specs.ValueOperators.{minᵛ, maxᵛ, impliesᵛ, coimpliesᵛ}
use Rattle.heyvl_places.specs.declared.spans.Span.{Span}
use Rattle.heyvl_places.specs.declared.checks.CheckKind.{CheckKind}
use Rattle.heylo_formula.specs.Operators.{validateᵛ, covalidateᵛ}
use Rattle.heylo_formula.specs.State.{Env, put}
use Rattle.heylo_formula.specs.Choices.{Choices}
use Rattle.heylo_formula.specs.Formula.{Form, Cond, Term}
use Rattle.heylo_formula.specs.Meaning.{value}
use Rattle.heylo_formula.specs.declared.types.Ty.{Ty}
use Rattle.heylo_formula.specs.declared.values.Val.{Val}
use Rattle.heylo_formula.specs.declared.values.Val.TheVariants.{Truth, Num}
use Rattle.heyvl_acts.specs.Acts.{Act, Acts, Arms, Head}
use Rattle.heyvl_acts.specs.Forward.{forward}
use Rattle.heyvl_acts.specs.Places.{in_order, nth}
use Rattle.heyvl_acts.specs.ModifiedVariables.{modified}
use Rattle.heyvl_acts.specs.Count.{count_of}
use Rattle.heyvl_acts.specs.Length.{length_of}

abbrev nowhere : Span
nowhere = record { from = 0; to = 0 }

abbrev whole : ℕ → Rational
whole n = ratio (pos n) 1

abbrev of : ℕ → Value
of n = finite (whole n)

abbrev at : ℕ → Form
at n = Form.number (of n)

abbrev only : Act → Acts
only a = Acts.next a Acts.done

abbrev chosen : Val → Choices → Choices → Choices
chosen v a b = Choices.choose v a b

-- The numerator and the denominator of a value in lowest terms; none for infinity.
abbrev shown : Value → Option (ℤ × ℕ)
shown (finite q) = Some (q.num, q.den)
shown infinite = None

-- A state: variable 0 is a Bool, 1 an Int, 2 a UInt, 3 a UReal.
state : Env
state zero = Truth true
state (suc zero) = Num (ratio (negsuc 1) 1)
state (suc (suc zero)) = Num (whole 3)
state (suc (suc (suc x))) = Num (ratio (pos 1) 2)

-- The post: the UInt plus the UReal, which is 7/2 in this state.
abbrev post : Form
post = Form.sum (Form.variable 2) (Form.variable 3)

after : Acts → Choices → Value
after acts c = forward acts (value post) state c

no_acts : after Acts.done Choices.stop ≡ finite (ratio (pos 7) 2)
unfolding after state ratio gcd gcd_steps ◌+ʳ◌ ◌+ᵛ◌
no_acts = refl

-- The Int, the UInt and the Bool are assigned; a UInt of 5 yields 11/2.
assignments : (after (only (Act.set 2 (Term.number (at 5)) nowhere)) Choices.stop ≡ finite (ratio (pos 11) 2)) × (after (only (Act.set 1 (Term.number (Form.variable 2)) nowhere)) Choices.stop ≡ finite (ratio (pos 7) 2)) × (after (only (Act.set 0 (Term.truth (Cond.constant false)) nowhere)) Choices.stop ≡ finite (ratio (pos 7) 2))
unfolding after state ratio gcd gcd_steps ◌+ʳ◌ ◌+ᵛ◌
assignments = (refl, refl, refl)

-- The UInt is 0, 2 or 4 with the probabilities 1/2, 1/4 and 1/4: its expected value is 3/2, and
-- with the UReal 2.
three_parts : shown (after (only (Act.draw 2 ((ratio (pos 1) 2, Term.number (at 0)) ∷ (ratio (pos 1) 4, Term.number (at 2)) ∷ (ratio (pos 1) 4, Term.number (at 4)) ∷ []) nowhere)) Choices.stop) ≡ Some (pos 2, 1)
unfolding after state ratio gcd gcd_steps ◌+ʳ◌ ◌*ʳ◌ ◌+ᵛ◌ ◌*ᵛ◌ infinite_times is_zeroʳ zeroʳ zeroᵛ
three_parts = refl

-- A toss with probability 1/3 if the Bool holds and 2 otherwise, then with 1 and 0: true yields 1,
-- false 4.
abbrev by_flag : Form → Form → Form
by_flag a b = Form.select (Cond.flag 0) a b

tossed : Form → Form → Bool → Option (ℤ × ℕ)
tossed a b t = shown (forward (only (Act.toss 0 (by_flag a b) nowhere)) (value (by_flag (at 1) (at 4))) (put 0 (Truth t) state) Choices.stop)

tosses : (tossed (Form.number (finite (ratio (pos 1) 3))) (at 2) true ≡ Some (pos 3, 1)) × (tossed (Form.number (finite (ratio (pos 1) 3))) (at 2) false ≡ Some (pos 1, 1)) × (tossed (at 1) (at 0) true ≡ Some (pos 1, 1)) × (tossed (at 1) (at 0) false ≡ Some (pos 4, 1))
unfolding tossed state ratio gcd gcd_steps ◌+ʳ◌ ◌-ʳ◌ ◌*ʳ◌ negʳ leqʳ leqᵛ minᵛ ◌+ᵛ◌ ◌*ᵛ◌ infinite_times is_zeroʳ zeroʳ oneʳ zeroᵛ oneᵛ
tosses = (refl, refl, refl, refl)

-- A havoc of a UInt: the chosen value, upward and downward; a choice of another kind counts as 0.
any_values : (after (only (Act.any 2 true Ty.UInt nowhere)) (chosen (Num (whole 9)) Choices.stop Choices.stop) ≡ finite (ratio (pos 19) 2)) × (after (only (Act.any 2 false Ty.UInt nowhere)) (chosen (Num (whole 9)) Choices.stop Choices.stop) ≡ finite (ratio (pos 19) 2)) × (after (only (Act.any 2 true Ty.UInt nowhere)) (chosen (Truth true) Choices.stop Choices.stop) ≡ finite (ratio (pos 1) 2))
unfolding after state ratio gcd gcd_steps ◌+ʳ◌ ◌+ᵛ◌ leqʳ zeroʳ
any_values = (refl, refl, refl)

-- A reward of 2, and an infinite one.
rewards : (after (only (Act.reward (at 2) nowhere)) Choices.stop ≡ finite (ratio (pos 11) 2)) × (after (only (Act.reward (Form.number infinite) nowhere)) Choices.stop ≡ infinite)
unfolding after state ratio gcd gcd_steps ◌+ʳ◌ ◌+ᵛ◌
rewards = (refl, refl)

-- The first arm whose guard holds: the second of two; and the else if no guard holds.
abbrev arms : Cond → Arms
arms g = Arms.arm (Cond.constant false) (only (Act.set 2 (Term.number (at 10)) nowhere)) (Arms.arm g (only (Act.set 2 (Term.number (at 20)) nowhere)) Arms.no_arm)

branches : (after (only (Act.ifs (arms (Cond.flag 0)) (only (Act.set 2 (Term.number (at 30)) nowhere)) nowhere)) Choices.stop ≡ finite (ratio (pos 41) 2)) × (after (only (Act.ifs (arms (Cond.not (Cond.flag 0))) (only (Act.set 2 (Term.number (at 30)) nowhere)) nowhere)) Choices.stop ≡ finite (ratio (pos 61) 2))
unfolding after state ratio gcd gcd_steps ◌+ʳ◌ ◌+ᵛ◌
branches = (refl, refl)

-- The larger and the smaller of two blocks.
picks : (after (only (Act.pick true (only (Act.set 2 (Term.number (at 1)) nowhere)) (only (Act.set 2 (Term.number (at 2)) nowhere)) nowhere)) Choices.stop ≡ finite (ratio (pos 5) 2)) × (after (only (Act.pick false (only (Act.set 2 (Term.number (at 1)) nowhere)) (only (Act.set 2 (Term.number (at 2)) nowhere)) nowhere)) Choices.stop ≡ finite (ratio (pos 3) 2))
unfolding after state ratio gcd gcd_steps ◌+ʳ◌ ◌+ᵛ◌ leqʳ leqᵛ maxᵛ minᵛ
picks = (refl, refl)

-- Each check of 3 with the post 7/2, and of 4 with the post 7/2.
checks : (after (only (Act.check CheckKind.Assert (at 3) nowhere)) Choices.stop ≡ of 3) × (after (only (Act.check CheckKind.Assume (at 3) nowhere)) Choices.stop ≡ infinite) × (after (only (Act.check CheckKind.Assume (at 4) nowhere)) Choices.stop ≡ finite (ratio (pos 7) 2)) × (after (only (Act.check CheckKind.CoAssert (at 4) nowhere)) Choices.stop ≡ of 4) × (after (only (Act.check CheckKind.CoAssume (at 4) nowhere)) Choices.stop ≡ zeroᵛ) × (after (only (Act.check CheckKind.CoAssume (at 3) nowhere)) Choices.stop ≡ finite (ratio (pos 7) 2))
unfolding after state ratio gcd gcd_steps ◌+ʳ◌ ◌+ᵛ◌ leqʳ leqᵛ maxᵛ minᵛ impliesᵛ coimpliesᵛ zeroᵛ zeroʳ
checks = (refl, refl, refl, refl, refl, refl)

-- The validate of 7/2 is 0, the covalidate infinity; with an assumption as post that is infinite,
-- validate is infinity.
validations : (after (only (Act.validate false nowhere)) Choices.stop ≡ zeroᵛ) × (after (only (Act.validate true nowhere)) Choices.stop ≡ infinite) × (after (Acts.next (Act.validate false nowhere) (only (Act.check CheckKind.Assume (at 3) nowhere))) Choices.stop ≡ infinite)
unfolding after state ratio gcd gcd_steps ◌+ʳ◌ ◌+ᵛ◌ leqʳ leqᵛ impliesᵛ validateᵛ covalidateᵛ is_zeroʳ zeroᵛ zeroʳ
validations = (refl, refl, refl)

-- A loop and a call mean 0 until they are encoded.
abbrev head : Head
head = record { number = 1; k = 2; inv = at 1; guard = Cond.flag 0; rank = None; scope = 0 ∷ 1 ∷ 2 ∷ []; span = nowhere }

not_encoded : (after (only (Act.loop head Acts.done)) Choices.stop ≡ zeroᵛ) × (after (only (Act.call [] 0 [] nowhere)) Choices.stop ≡ zeroᵛ)
unfolding after
not_encoded = (refl, refl)

-- ---- Small procedures

-- A fair coin shows heads with probability 1/2.
abbrev halves : Cond → Cond → List (Rational × Term)
halves g h = (ratio (pos 1) 2, Term.truth g) ∷ (ratio (pos 1) 2, Term.truth h) ∷ []

abbrev flip : ℕ → Act
flip x = Act.draw x (halves (Cond.constant true) (Cond.constant false)) nowhere

a_coin : shown (forward (only (flip 0)) (value (Form.iverson (Cond.flag 0))) state Choices.stop) ≡ Some (pos 1, 2)
unfolding state ratio gcd gcd_steps ◌+ʳ◌ ◌*ʳ◌ ◌+ᵛ◌ ◌*ᵛ◌ infinite_times is_zeroʳ zeroʳ oneʳ zeroᵛ oneᵛ
a_coin = refl

-- A guess after a fair coin toss: guessing true after heads and false after tails is right with
-- probability 1, guessing false after both with probability 1/2.
abbrev guess : Acts
guess = Acts.next (flip 0) (only (Act.any 1 true Ty.Bool nowhere))

abbrev right_guess : Form
right_guess = Form.iverson (Cond.same (Cond.flag 0) (Cond.flag 1))

guesses : (shown (forward guess (value right_guess) state (chosen (Truth false) (chosen (Truth true) Choices.stop Choices.stop) (chosen (Truth false) Choices.stop Choices.stop))) ≡ Some (pos 1, 1)) × (shown (forward guess (value right_guess) state Choices.stop) ≡ Some (pos 1, 2))
unfolding state ratio gcd gcd_steps ◌+ʳ◌ ◌*ʳ◌ ◌+ᵛ◌ ◌*ᵛ◌ infinite_times is_zeroʳ zeroʳ oneʳ zeroᵛ oneᵛ
guesses = (refl, refl)

-- After a coassumption of infinity, any upper bound holds.
vacuous : forward (only (Act.check CheckKind.CoAssume (Form.embed (Cond.constant true)) nowhere)) (value (at 5)) state Choices.stop ≡ zeroᵛ
unfolding coimpliesᵛ leqᵛ ratio gcd gcd_steps zeroᵛ zeroʳ
vacuous = refl

-- The smaller of a UInt that is set to 1 and to 2 is 1.
smaller_block : shown (forward (only (Act.pick false (only (Act.set 2 (Term.number (at 1)) nowhere)) (only (Act.set 2 (Term.number (at 2)) nowhere)) nowhere)) (value (Form.variable 2)) state Choices.stop) ≡ Some (pos 1, 1)
unfolding state ratio gcd gcd_steps leqʳ leqᵛ minᵛ
smaller_block = refl

-- ---- Places, modified variables, counts and lengths

-- The arms of an `if` precede its else, and an act precedes the acts in it.
abbrev nested : Acts
nested = Acts.next (Act.ifs (Arms.arm (Cond.flag 0) (only (Act.validate true nowhere)) Arms.no_arm) (only (Act.validate false nowhere)) nowhere) (Acts.next (Act.loop head (Acts.next (flip 0) (only (Act.set 3 (Term.number (at 1)) nowhere)))) (only (Act.reward (at 1) nowhere)))

places : (nth (in_order nested) 1 ≡ Some (Act.validate true nowhere)) × (nth (in_order nested) 2 ≡ Some (Act.validate false nowhere)) × (nth (in_order nested) 4 ≡ Some (flip 0)) × (nth (in_order nested) 6 ≡ Some (Act.reward (at 1) nowhere)) × (nth (in_order nested) 7 ≡ None)
places = (refl, refl, refl, refl, refl)

-- Variable 3 is not in the scope of the loop.
modified_variables : modified head.scope (Acts.next (flip 0) (only (Act.set 3 (Term.number (at 1)) nowhere))) ≡ 0 ∷ []
modified_variables = refl

-- The target of a toss is modified; the variables of its form are not.
modified_by_toss : modified head.scope (only (Act.toss 1 (by_flag (at 1) (at 0)) nowhere)) ≡ 1 ∷ []
modified_by_toss = refl

-- The if has 1 arm and 2 statements; the loop has two checks, a havoc, a validation, an if and two
-- copies of 2 + 2 statements.
counts : (count_of nested ≡ 17) × (count_of (only (Act.call (0 ∷ []) 0 (Term.truth (Cond.flag 0) ∷ Term.truth (Cond.flag 0) ∷ []) nowhere)) ≡ 7)
counts = (refl, refl)

-- The longest branch counts.
lengths : length_of (only (Act.ifs (Arms.arm (Cond.flag 0) nested Arms.no_arm) (only (flip 0)) nowhere)) ≡ 5
lengths = refl
