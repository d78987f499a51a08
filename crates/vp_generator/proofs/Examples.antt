-- Rows worked by hand: the form of each act, acts that substitute a term into the form of another
-- one, and numbers of binders.
use Rattle.std.proofs.Common.{◌≡◌, ℕ, refl, sym, true, false, [], ◌∷◌, Bool}
use Rattle.std.proofs.lemmas.Bool.{false≢true}
use Rattle.std.specs.Prelude.{pos, Option, Some, None, ℤ}
use Rattle.heyvl_num.specs.Gcd.{gcd, gcd_steps}
use Rattle.heyvl_num.specs.Rational.{Rational, ratio, zeroʳ, oneʳ, ◌+ʳ◌, ◌-ʳ◌, ◌*ʳ◌, negʳ, leqʳ}
use Rattle.heyvl_num.specs.Value.{Value, zeroᵛ, oneᵛ, ◌+ᵛ◌, ◌*ᵛ◌, infinite_times, is_zeroʳ, leqᵛ}
use Rattle.heyvl_num.specs.Value.Value.{finite, infinite}
use Rattle.heyvl_num.specs.ValueOperators.{minᵛ, monusᵛ}
use Rattle.heyvl_places.specs.declared.spans.Span.{Span}
use Rattle.heyvl_places.specs.declared.checks.CheckKind.{CheckKind}
use Rattle.heylo_formula.specs.BinderNames.{binders}
use Rattle.heylo_formula.specs.Choices.{Choices}
use Rattle.heylo_formula.specs.Formula.{Form, Cond, Term}
use Rattle.heylo_formula.specs.Meaning.{value}
use Rattle.heylo_formula.specs.Sizes.{nodes, depth}
use Rattle.heylo_formula.specs.Typing.{Types, types_in}
use Rattle.heylo_formula.specs.Substitution as Replaced
use Rattle.heylo_formula.specs.declared.types.Ty.{Ty}
use Rattle.heylo_formula.specs.declared.values.Val.TheVariants.{Truth}
use Rattle.heyvl_acts.specs.Acts.{Act, Acts, Arms}
use Rattle.heyvl_acts.specs.WellTypedActs.{ActFits, IsProbability}
use Rattle.vp_generator.specs.GeneratedForms.{vp}
use Rattle.vp_generator.specs.PrenexedForms.{prenexed}

abbrev nowhere : Span
nowhere = record { from = 0; to = 0 }

abbrev one : Act → Acts
one a = Acts.next a Acts.done

abbrev both : Act → Act → Acts
both a b = Acts.next a (one b)

-- ---- A fair coin, and then any Boolean: 13 nodes, depth 6, and two binders, each with its own
-- number

abbrev guess : Rational → Acts
guess half = both (Act.draw 0 ((half, Term.truth (Cond.constant true)) ∷ (half, Term.truth (Cond.constant false)) ∷ []) nowhere) (Act.any 1 true Ty.Bool nowhere)

abbrev same_values : Form
same_values = Form.iverson (Cond.same (Cond.flag 0) (Cond.flag 1))

guess_size : (half : Rational) → (nodes (vp (guess half) same_values) ≡ 13) × (depth (vp (guess half) same_values) ≡ 6)
unfolding Replaced.subst
guess_size half = (refl, refl)

guess_binders : (half : Rational) → binders (vp (guess half) same_values) ≡ (1, Ty.Bool) ∷ (1, Ty.Bool) ∷ []
unfolding Replaced.subst
guess_binders half = refl

guess_prenexed : (half : Rational) → prenexed 2 (vp (guess half) same_values) ≡ Form.sum (Form.scale half (Form.iverson (Cond.same (Cond.constant true) (Cond.flag 2)))) (Form.scale half (Form.iverson (Cond.same (Cond.constant false) (Cond.flag 3))))
unfolding Replaced.subst
guess_prenexed half = refl

-- ---- Each act

abbrev y : Form
y = Form.variable 1

set_row : vp (one (Act.set 0 (Term.number y) nowhere)) (Form.sum (Form.variable 0) (Form.variable 2)) ≡ Form.sum y (Form.variable 2)
unfolding Replaced.subst
set_row = refl

draw_row : (p q r : Rational) → vp (one (Act.draw 0 ((p, Term.number (Form.variable 3)) ∷ (q, Term.number (Form.variable 4)) ∷ (r, Term.number (Form.variable 5)) ∷ []) nowhere)) (Form.variable 0) ≡ Form.sum (Form.sum (Form.scale p (Form.variable 3)) (Form.scale q (Form.variable 4))) (Form.scale r (Form.variable 5))
unfolding Replaced.subst
draw_row p q r = refl

-- The weight occurs in both products, which have the toss's place.
toss_row : (p : Form) (span : Span) → vp (one (Act.toss 0 p span)) (Form.iverson (Cond.flag 0)) ≡ Form.sum (Form.product (Form.min p (Form.number oneᵛ)) (Form.iverson (Cond.constant true)) span) (Form.product (Form.cut (Form.number oneᵛ) (Form.min p (Form.number oneᵛ))) (Form.iverson (Cond.constant false)) span)
unfolding Replaced.subst
toss_row p span = refl

-- A toss with one probability if the Bool holds, and another if it does not: true counts 1, false
-- 4.
abbrev whole : ℕ → Form
whole n = Form.number (finite (ratio (pos n) 1))

abbrev by_flag : Form → Form → Form
by_flag a b = Form.select (Cond.flag 0) a b

tossed : Form → Form → Bool → Option (ℤ × ℕ)
tossed a b t = parts (value (vp (one (Act.toss 0 (by_flag a b) nowhere)) (by_flag (whole 1) (whole 4))) (λ x. Truth t) Choices.stop)
  where
    parts : Value → Option (ℤ × ℕ)
    parts (finite q) = Some (q.num, q.den)
    parts infinite = None

-- The weights 1/3 and 2, and then 1 and 0.
toss_values : (tossed (Form.number (finite (ratio (pos 1) 3))) (whole 2) true ≡ Some (pos 3, 1)) × (tossed (Form.number (finite (ratio (pos 1) 3))) (whole 2) false ≡ Some (pos 1, 1)) × (tossed (whole 1) (whole 0) true ≡ Some (pos 1, 1)) × (tossed (whole 1) (whole 0) false ≡ Some (pos 4, 1))
unfolding tossed Replaced.subst ratio gcd gcd_steps ◌+ʳ◌ ◌-ʳ◌ ◌*ʳ◌ negʳ leqʳ leqᵛ minᵛ monusᵛ ◌+ᵛ◌ ◌*ᵛ◌ infinite_times is_zeroʳ zeroʳ oneʳ zeroᵛ oneᵛ
toss_values = (refl, refl, refl, refl)

-- The laws of the generated form require only that a weight has its type: a variable of type UReal
-- is allowed, although the static rules refuse it.
abbrev numbers_behind : Types
numbers_behind = types_in (Ty.Bool ∷ Ty.UReal ∷ [])

variable_weighs : ActFits numbers_behind (Act.toss 0 (Form.variable 1) nowhere)
variable_weighs = (refl, ((refl, refl), refl))

no_probability : IsProbability numbers_behind (Form.variable 1) → ⊥
no_probability h = false≢true (sym h.1.1)

-- Each side has its own binders.
toss_binders : binders (vp (both (Act.toss 0 (Form.iverson (Cond.flag 2)) nowhere) (Act.any 1 true Ty.Bool nowhere)) same_values) ≡ (1, Ty.Bool) ∷ (1, Ty.Bool) ∷ []
unfolding Replaced.subst
toss_binders = refl

any_rows : (k : Form) → (vp (one (Act.any 4 true Ty.UInt nowhere)) k ≡ Form.bind true 4 4 Ty.UInt k) × (vp (one (Act.any 4 false Ty.Int nowhere)) k ≡ Form.bind false 4 4 Ty.Int k)
any_rows k = (refl, refl)

reward_row : (k f : Form) → vp (one (Act.reward f nowhere)) k ≡ Form.sum k f
reward_row k f = refl

if_row : (k : Form) (g h : Cond) (f : Form) → vp (one (Act.ifs (Arms.arm g (one (Act.reward f nowhere)) (Arms.arm h Acts.done Arms.no_arm)) (one (Act.validate false nowhere)) nowhere)) k ≡ Form.select g (Form.sum k f) (Form.select h k (Form.validate k))
if_row k g h f = refl

pick_rows : (k f : Form) → (vp (one (Act.pick true (one (Act.reward f nowhere)) Acts.done nowhere)) k ≡ Form.max (Form.sum k f) k) × (vp (one (Act.pick false Acts.done (one (Act.reward f nowhere)) nowhere)) k ≡ Form.min k (Form.sum k f))
pick_rows k f = (refl, refl)

assert_row : (k f : Form) → vp (one (Act.check CheckKind.Assert f nowhere)) k ≡ Form.min f k
assert_row k f = refl

assume_row : (k f : Form) → vp (one (Act.check CheckKind.Assume f nowhere)) k ≡ Form.imply f k
assume_row k f = refl

coassert_row : (k f : Form) → vp (one (Act.check CheckKind.CoAssert f nowhere)) k ≡ Form.max f k
coassert_row k f = refl

coassume_row : (k f : Form) → vp (one (Act.check CheckKind.CoAssume f nowhere)) k ≡ Form.co_imply f k
coassume_row k f = refl

validate_rows : (k : Form) → (vp (one (Act.validate false nowhere)) k ≡ Form.validate k) × (vp (one (Act.validate true nowhere)) k ≡ Form.co_validate k)
validate_rows k = (refl, refl)

-- ---- Acts that substitute a term into the form of another one

-- y := x; x := y + z, over x + y: the term for x contains y, for which x is substituted then
set_before_set : vp (both (Act.set 1 (Term.number (Form.variable 0)) nowhere) (Act.set 0 (Term.number (Form.sum (Form.variable 1) (Form.variable 2))) nowhere)) (Form.sum (Form.variable 0) (Form.variable 1)) ≡ Form.sum (Form.sum (Form.variable 0) (Form.variable 2)) (Form.variable 0)
unfolding Replaced.subst
set_before_set = refl

-- y := z; x is drawn from y and x, over x
set_before_draw : (p q : Rational) → vp (both (Act.set 1 (Term.number (Form.variable 2)) nowhere) (Act.draw 0 ((p, Term.number (Form.variable 1)) ∷ (q, Term.number (Form.variable 0)) ∷ []) nowhere)) (Form.variable 0) ≡ Form.sum (Form.scale p (Form.variable 2)) (Form.scale q (Form.variable 0))
unfolding Replaced.subst
set_before_draw p q = refl

-- any x; y := x, over x + y
any_before_set : vp (both (Act.any 0 true Ty.UInt nowhere) (Act.set 1 (Term.number (Form.variable 0)) nowhere)) (Form.sum (Form.variable 0) (Form.variable 1)) ≡ Form.bind true 0 0 Ty.UInt (Form.sum (Form.variable 0) (Form.variable 0))
unfolding Replaced.subst
any_before_set = refl

-- y := x; any x, over x + y: the binder takes the first number from 1,048,576 on, and keeps its
-- name
set_before_any : vp (both (Act.set 1 (Term.number (Form.variable 0)) nowhere) (Act.any 0 true Ty.UInt nowhere)) (Form.sum (Form.variable 0) (Form.variable 1)) ≡ Form.bind true 1048576 0 Ty.UInt (Form.sum (Form.variable 1048576) (Form.variable 0))
unfolding Replaced.subst Replaced.fresh Replaced.least_unused
set_before_any = refl

-- any y, where the post binds y
any_of_a_bound_variable : (k : Form) → vp (one (Act.any 1 true Ty.Bool nowhere)) (Form.sum (Form.bind true 1 1 Ty.Bool k) k) ≡ Form.bind true 1 1 Ty.Bool (Form.sum (Form.bind true 1 1 Ty.Bool k) k)
any_of_a_bound_variable k = refl

-- x is drawn from x + y and x, over x: the parts hold the value before the draw
draw_over_its_variable : (p q : Rational) → vp (one (Act.draw 0 ((p, Term.number (Form.sum (Form.variable 0) (Form.variable 1))) ∷ (q, Term.number (Form.variable 0)) ∷ []) nowhere)) (Form.variable 0) ≡ Form.sum (Form.scale p (Form.sum (Form.variable 0) (Form.variable 1))) (Form.scale q (Form.variable 0))
unfolding Replaced.subst
draw_over_its_variable p q = refl

-- if b { b := false }, over [b]: the guard is read before
if_sets_its_guard : vp (one (Act.ifs (Arms.arm (Cond.flag 0) (one (Act.set 0 (Term.truth (Cond.constant false)) nowhere)) Arms.no_arm) Acts.done nowhere)) (Form.iverson (Cond.flag 0)) ≡ Form.select (Cond.flag 0) (Form.iverson (Cond.constant false)) (Form.iverson (Cond.flag 0))
unfolding Replaced.subst
if_sets_its_guard = refl

-- ---- Numbers of binders

-- sup x. x + (inf y. x + y), over 3 variables: the outer binder is 3, the inner one 4
binder_in_a_binder : prenexed 3 (Form.bind true 0 0 Ty.UInt (Form.sum (Form.variable 0) (Form.bind false 1 1 Ty.Int (Form.sum (Form.variable 0) (Form.variable 1))))) ≡ Form.sum (Form.variable 3) (Form.sum (Form.variable 3) (Form.variable 4))
binder_in_a_binder = refl

-- (sup x. x) + (sup x. x) + x, over 1 variable: the last x is free
two_binders_of_one_variable : prenexed 1 (Form.sum (Form.sum (Form.bind true 0 0 Ty.UInt (Form.variable 0)) (Form.bind true 0 0 Ty.UInt (Form.variable 0))) (Form.variable 0)) ≡ Form.sum (Form.sum (Form.variable 1) (Form.variable 2)) (Form.variable 0)
two_binders_of_one_variable = refl

-- sup x. sup x. x: the inner binder is the one that is meant
binder_of_a_bound_variable : prenexed 1 (Form.bind true 0 0 Ty.UInt (Form.bind true 0 0 Ty.UInt (Form.variable 0))) ≡ Form.variable 2
binder_of_a_bound_variable = refl

-- a binder that was renamed to 1,048,576 is named after variable 1
renamed_binder : (prenexed 2 (Form.bind false 1048576 1 Ty.UInt (Form.sum (Form.variable 1) (Form.variable 1048576))) ≡ Form.sum (Form.variable 1) (Form.variable 2)) × (binders (Form.bind false 1048576 1 Ty.UInt (Form.variable 1048576)) ≡ (1, Ty.UInt) ∷ [])
renamed_binder = (refl, refl)
