-- Rankings worked by hand: the geometric loop, and the expected running time of a walk.
use Rattle.std.proofs.Common.{◌≡◌, ◌∙◌, refl, ap, ap₂, ℕ, Bool, true, false, List, [], ◌∷◌, pos}
use Rattle.std.specs.Prelude.{None}
use Rattle.heyvl_num.specs.Gcd.{gcd, gcd_steps}
use Rattle.heyvl_num.specs.Rational.{Rational, ratio, zeroʳ, oneʳ, halfʳ, leqʳ, ◌+ʳ◌, ◌-ʳ◌, ◌*ʳ◌, negʳ}
use Rattle.heyvl_num.specs.Value.{zeroᵛ, oneᵛ, leqᵛ, ◌+ᵛ◌, ◌*ᵛ◌}
use Rattle.heyvl_num.specs.Value.Value.{finite}
use Rattle.heyvl_num.specs.ValueOperators.{monusᵛ}
use Rattle.heyvl_num.specs.WeightedSums.{weighted_sum, scaled}
use Rattle.heyvl_num.proofs.exported.Signs.{halves}
use Rattle.heyvl_num.proofs.exported.Values.{*ᵛ-one, *ᵛ-zero, finite-+, zero-+ᵛ}
use Rattle.heyvl_places.specs.declared.spans.Span.{Span}
use Rattle.heylo_formula.specs.Choices.{Choices}
use Rattle.heylo_formula.specs.Formula.{Form, Cond, Term}
use Rattle.heylo_formula.specs.State.{environment}
use Rattle.heylo_formula.specs.Substitution as Replaced
use Rattle.heylo_formula.specs.declared.types.Ty.{Ty}
use Rattle.heylo_formula.specs.declared.values.Val.{Val}
use Rattle.heylo_formula.specs.declared.values.Val.TheVariants.{Truth, Num}
use Rattle.heyvl_acts.specs.Acts.{Head, Act, Acts, Arms}
use Rattle.run_machine.specs.Bound.{at_test}
use Rattle.run_machine.specs.Runs.{runs}
use Rattle.run_machine.specs.Scheduler.{Tree}
use Rattle.run_machine.specs.Sums.{turns_sum}
use Rattle.ranking_rule.specs.RankingGoals.{found}
use Rattle.ranking_rule.specs.Rankings.{after_turn}
use Rattle.heyvl_acts.specs.Upward.{upward}

abbrev nowhere : Span
nowhere = record { from = 0; to = 0 }

abbrev whole : ℕ → Rational
whole n = ratio (pos n) 1

abbrev constant : Rational → Form
constant q = Form.number (finite q)

abbrev one : Act → Acts
one a = Acts.next a Acts.done

abbrev both : Act → Acts → Acts
both a b = Acts.next a b

abbrev fair : ℕ → Rational → Act
fair x half = Act.draw x ((half, Term.truth (Cond.constant true)) ∷ (half, Term.truth (Cond.constant false)) ∷ []) nowhere

abbrev head : Cond → Head
head g = record { number = 1; k = 1; inv = Form.number zeroᵛ; guard = g; rank = None; scope = []; span = nowhere }

-- ---- The geometric loop: 0 is the input, 1 the counter, 2 whether it goes on, 3 whether it stops

abbrev stop_or_count : Act
stop_or_count = Act.ifs (Arms.arm (Cond.flag 3) (one (Act.set 2 (Term.truth (Cond.constant false)) nowhere)) Arms.no_arm) (one (Act.set 1 (Term.number (Form.sum (Form.variable 1) (Form.number oneᵛ))) nowhere)) nowhere

abbrev geometric : Rational → Acts
geometric half = both (fair 3 half) (one stop_or_count)

-- The given value while it goes on, and then 0.
abbrev left_turns : Rational → Form
left_turns q = Form.select (Cond.flag 2) (constant q) (Form.number zeroᵛ)

abbrev state : Bool → List Val
state b = Num zeroʳ ∷ Num zeroʳ ∷ Truth b ∷ Truth false ∷ []

-- The body has no reward, and no choice that changes direction.
geometric_upward : (half : Rational) → upward (geometric half) ≡ geometric half
geometric_upward half = refl

-- With 2 it is a ranking of step 1: 1 + 1/2 * 0 + 1/2 * 2 is 2, and afterwards it is 0.
two_is_enough : after_turn (head (Cond.flag 2)) (geometric halfʳ) (whole 1, left_turns (whole 2)) (environment (state true)) Choices.stop ≡ finite (whole 2)
unfolding ◌+ᵛ◌ ◌*ᵛ◌ zeroᵛ oneᵛ zeroʳ oneʳ halfʳ ◌+ʳ◌ ◌*ʳ◌ ratio gcd gcd_steps
two_is_enough = refl

nothing_afterwards : after_turn (head (Cond.flag 2)) (geometric halfʳ) (whole 1, left_turns (whole 2)) (environment (state false)) Choices.stop ≡ zeroᵛ
nothing_afterwards = refl

-- With 1 it is none: 1 + 1/2 is above 1.
one_is_too_little : after_turn (head (Cond.flag 2)) (geometric halfʳ) (whole 1, left_turns (whole 1)) (environment (state true)) Choices.stop ≡ finite (ratio (pos 3) 2)
unfolding ◌+ᵛ◌ ◌*ᵛ◌ zeroᵛ oneᵛ zeroʳ oneʳ halfʳ ◌+ʳ◌ ◌*ʳ◌ ratio gcd gcd_steps
one_is_too_little = refl

-- With the step 1/2 it is a ranking: 1/2 + 1/2 is 1.
two_halves : finite halfʳ +ᵛ finite halfʳ ≡ oneᵛ
unfolding oneᵛ
two_halves = finite-+ halfʳ halfʳ ∙ ap finite halves

half_a_step : after_turn (head (Cond.flag 2)) (geometric halfʳ) (halfʳ, Form.select (Cond.flag 2) (Form.number oneᵛ) (Form.number zeroᵛ)) (environment (state true)) Choices.stop ≡ oneᵛ
half_a_step = ap (λ v. finite halfʳ +ᵛ v) (ap₂ (λ x y. x +ᵛ y) (*ᵛ-zero (finite halfʳ)) (*ᵛ-one (finite halfʳ)) ∙ zero-+ᵛ (finite halfʳ)) ∙ two_halves

-- The computed form of the goal.
geometric_found : (half : Rational) → found (head (Cond.flag 2)) (geometric half) (whole 1, left_turns (whole 2)) ≡ Form.select (Cond.flag 2) (Form.sum (constant (whole 1)) (Form.sum (Form.scale half (Form.select (Cond.constant true) (Form.select (Cond.constant false) (constant (whole 2)) (Form.number zeroᵛ)) (left_turns (whole 2)))) (Form.scale half (Form.select (Cond.constant false) (Form.select (Cond.constant false) (constant (whole 2)) (Form.number zeroᵛ)) (left_turns (whole 2)))))) (Form.number zeroᵛ)
unfolding Replaced.subst
geometric_found half = refl

-- Each run has an iteration with its first step; with the fifth step half of the runs have a second
-- one.
first_turn : turns_sum 1 (runs [] 1 (at_test 0 (head (Cond.flag 2)) (geometric halfʳ) (state true)) Tree.leaf) ≡ finite (whole 1)
unfolding runs weighted_sum scaled ◌+ᵛ◌ ◌*ᵛ◌ zeroᵛ oneᵛ zeroʳ oneʳ halfʳ ◌+ʳ◌ ◌*ʳ◌ ratio gcd gcd_steps
first_turn = refl

second_turn : turns_sum 1 (runs [] 5 (at_test 0 (head (Cond.flag 2)) (geometric halfʳ) (state true)) Tree.leaf) ≡ finite (ratio (pos 3) 2)
unfolding runs weighted_sum scaled ◌+ᵛ◌ ◌*ᵛ◌ zeroᵛ oneᵛ zeroʳ oneʳ halfʳ ◌+ʳ◌ ◌*ʳ◌ ratio gcd gcd_steps
second_turn = refl

-- ---- The walk: 0 is the input, 1 the position, 2 whether it goes down; each iteration costs 1

abbrev go_down : Act
go_down = Act.ifs (Arms.arm (Cond.flag 2) (one (Act.set 1 (Term.number (Form.cut (Form.variable 1) (Form.number oneᵛ))) nowhere)) Arms.no_arm) Acts.done nowhere

abbrev walk : Rational → Acts
walk half = both (Act.reward (Form.number oneᵛ) nowhere) (both (fair 2 half) (one go_down))

abbrev twice : Form
twice = Form.scale (whole 2) (Form.variable 1)

abbrev above_zero : Cond
above_zero = Cond.lt (Form.number zeroᵛ) (Form.variable 1)

-- The reward is left out.
walk_upward : (half : Rational) → upward (walk half) ≡ both (fair 2 half) (one go_down)
walk_upward half = refl

-- At 3: 1 + 1/2 * 4 + 1/2 * 6 is 6.
walk_at_three : after_turn (head above_zero) (walk halfʳ) (whole 1, twice) (environment (Num (whole 3) ∷ Num (whole 3) ∷ Truth false ∷ [])) Choices.stop ≡ finite (whole 6)
unfolding ◌+ᵛ◌ ◌*ᵛ◌ zeroᵛ oneᵛ zeroʳ oneʳ halfʳ ◌+ʳ◌ ◌-ʳ◌ ◌*ʳ◌ negʳ monusᵛ leqᵛ leqʳ ratio gcd gcd_steps
walk_at_three = refl

-- At 0 the loop ends.
walk_at_zero : after_turn (head above_zero) (walk halfʳ) (whole 1, twice) (environment (Num (whole 0) ∷ Num (whole 0) ∷ Truth false ∷ [])) Choices.stop ≡ zeroᵛ
unfolding zeroᵛ zeroʳ leqᵛ leqʳ ratio gcd gcd_steps
walk_at_zero = refl

-- ---- Arbitrary values and picks

-- Choices of both directions are taken upward, also inside blocks.
taken_upward : (f : Form) → upward (both (Act.any 0 false Ty.UInt nowhere) (one (Act.pick false (one (Act.reward f nowhere)) (one (Act.pick true Acts.done (one (Act.any 0 true Ty.UInt nowhere)) nowhere)) nowhere))) ≡ both (Act.any 0 true Ty.UInt nowhere) (one (Act.pick true Acts.done (one (Act.pick true Acts.done (one (Act.any 0 true Ty.UInt nowhere)) nowhere)) nowhere))
taken_upward f = refl
