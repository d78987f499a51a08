-- The definitions, computed for values that were worked out by hand.
use Rattle.std.proofs.Common.{◌≡◌, refl, Bool, true, false, cond, ◌==◌, ◌&&◌}
use Rattle.std.specs.Prelude.{pos, negsuc, Some, None}
use Prim.Native.Nat.{zero, suc}
use Rattle.heyvl_places.specs.declared.spans.Span.{Span}
use Rattle.heyvl_num.specs.Gcd.{gcd, gcd_steps}
use Rattle.heyvl_num.specs.Rational.{ratio, zeroʳ, halfʳ, ◌+ʳ◌, ◌-ʳ◌, ◌*ʳ◌, negʳ, leqʳ}
use Rattle.heyvl_num.specs.Value.{Value, zeroᵛ, oneᵛ, ◌+ᵛ◌, ◌*ᵛ◌, infinite_times, is_zeroʳ, leqᵛ, ◌≤ᵛ◌}
use Rattle.heyvl_num.specs.Value.Value.{finite, infinite}
use Rattle.heyvl_num.specs.ValueOperators.{minᵛ, maxᵛ, impliesᵛ, coimpliesᵛ, monusᵛ}
use Rattle.heylo_formula.specs.Operators.{differenceᵛ, validateᵛ, covalidateᵛ, lessᵛ, equalᵛ}
use Rattle.heyvl_num.proofs.exported.Values.{≤ᵛ_trans, zero-≤ᵛ-one, finite_nonnegative}
use Rattle.heylo_formula.specs.State.{Env, has, truth_of, number_of}
use Rattle.heylo_formula.specs.Choices.{Choices}
use Rattle.heylo_formula.specs.Formula.{Form, Cond}
use Rattle.heylo_formula.specs.Meaning.{value, holds}
use Rattle.heylo_formula.specs.Typing.{NumberType, Types, type_of, is_well_typed}
use Rattle.heylo_formula.specs.Extrema.{Means, is_directed}
use Rattle.heylo_formula.specs.declared.types.Ty.{Ty}
use Rattle.heylo_formula.specs.declared.values.Val.{Val}
use Rattle.heylo_formula.specs.declared.values.Val.TheVariants.{Truth, Num}

three : Value
three = finite (ratio (pos 3) 1)

half : Value
half = finite (ratio (pos 1) 2)

-- 1/2 - 3 = -5/2. There is no difference with infinity: subtracting it yields 0.
differences : (differenceᵛ half three ≡ finite (ratio (negsuc 4) 2)) × (differenceᵛ half infinite ≡ zeroᵛ) × (differenceᵛ infinite half ≡ infinite) × (differenceᵛ infinite infinite ≡ infinite)
unfolding half three differenceᵛ ratio gcd gcd_steps negʳ ◌+ʳ◌ ◌-ʳ◌ zeroᵛ zeroʳ
differences = (refl, refl, refl, refl)

-- Validate and covalidate of 0, 1/2 and infinity.
validations : (validateᵛ zeroᵛ ≡ zeroᵛ) × (validateᵛ half ≡ zeroᵛ) × (validateᵛ infinite ≡ infinite)
unfolding half validateᵛ zeroᵛ
validations = (refl, refl, refl)

covalidations : (covalidateᵛ zeroᵛ ≡ zeroᵛ) × (covalidateᵛ half ≡ infinite) × (covalidateᵛ infinite ≡ infinite)
unfolding half covalidateᵛ is_zeroʳ zeroᵛ zeroʳ ratio gcd gcd_steps
covalidations = (refl, refl, refl)

comparisons : (lessᵛ half three ≡ true) × (lessᵛ half half ≡ false) × (lessᵛ half infinite ≡ true) × (equalᵛ half half ≡ true) × (equalᵛ half three ≡ false) × (equalᵛ infinite infinite ≡ true)
unfolding half three leqᵛ leqʳ ratio gcd gcd_steps
comparisons = (refl, refl, refl, refl, refl, refl)

-- ---- Meaning

-- The state in which variable 0 is true, and every other one is 1/2.
state : Env
state zero = Truth true
state (suc x) = Num (ratio (pos 1) 2)

-- 1/2 + 3 = 7/2, 1/2 * 3 = 3/2, 1/2 times 3 as a multiple is the same, and 0 * infinity = 0
sums_and_products : (value (Form.sum (Form.variable 1) (Form.number three)) state Choices.stop ≡ finite (ratio (pos 7) 2)) × (value (Form.scale (ratio (pos 1) 2) (Form.number three)) state Choices.stop ≡ finite (ratio (pos 3) 2)) × (value (Form.scale zeroʳ (Form.number infinite)) state Choices.stop ≡ zeroᵛ)
unfolding state three ratio gcd gcd_steps ◌+ʳ◌ ◌*ʳ◌ ◌+ᵛ◌ ◌*ᵛ◌ infinite_times is_zeroʳ zeroʳ zeroᵛ
sums_and_products = (refl, refl, refl)

-- The implication of equal operands is infinite, the coimplication 0.
implications : (value (Form.imply (Form.variable 1) (Form.variable 1)) state Choices.stop ≡ infinite) × (value (Form.imply (Form.number three) (Form.variable 1)) state Choices.stop ≡ half) × (value (Form.co_imply (Form.variable 1) (Form.variable 1)) state Choices.stop ≡ zeroᵛ) × (value (Form.co_imply (Form.variable 1) (Form.number three)) state Choices.stop ≡ three)
unfolding state three half ratio gcd gcd_steps leqʳ leqᵛ impliesᵛ coimpliesᵛ
implications = (refl, refl, refl, refl)

minima_and_differences : (value (Form.min (Form.variable 1) (Form.number three)) state Choices.stop ≡ half) × (value (Form.max (Form.variable 1) (Form.number three)) state Choices.stop ≡ three) × (value (Form.cut (Form.variable 1) (Form.number three)) state Choices.stop ≡ zeroᵛ)
unfolding state three half ratio gcd gcd_steps leqʳ leqᵛ minᵛ maxᵛ monusᵛ
minima_and_differences = (refl, refl, refl)

conditions : (holds (Cond.flag 0) state Choices.stop ≡ true) × (holds (Cond.flag 1) state Choices.stop ≡ false) × (holds (Cond.not (Cond.flag 0)) state Choices.stop ≡ false) × (holds (Cond.and (Cond.flag 0) (Cond.constant false)) state Choices.stop ≡ false) × (holds (Cond.or (Cond.constant false) (Cond.flag 0)) state Choices.stop ≡ true) × (holds (Cond.same (Cond.constant false) (Cond.flag 1)) state Choices.stop ≡ true) × (holds (Cond.ite (Cond.flag 0) (Cond.constant false) (Cond.constant true)) state Choices.stop ≡ false)
unfolding state
conditions = (refl, refl, refl, refl, refl, refl, refl)

chosen_forms : (value (Form.embed (Cond.flag 0)) state Choices.stop ≡ infinite) × (value (Form.iverson (Cond.flag 0)) state Choices.stop ≡ oneᵛ) × (value (Form.iverson (Cond.flag 1)) state Choices.stop ≡ zeroᵛ) × (value (Form.select (Cond.flag 0) (Form.number three) (Form.number infinite)) state Choices.stop ≡ three)
unfolding state
chosen_forms = (refl, refl, refl, refl)

-- A binder takes the chosen value, or 0 if it is not of its type; the operands of a sum have
-- independent choices.
choices : (value (Form.bind true 1 1 Ty.UReal (Form.variable 1)) state (Choices.choose (Num (ratio (pos 3) 1)) Choices.stop Choices.stop) ≡ three) × (value (Form.bind true 1 1 Ty.Bool (Form.iverson (Cond.flag 1))) state (Choices.choose (Truth true) Choices.stop Choices.stop) ≡ oneᵛ) × (value (Form.bind true 1 1 Ty.UInt (Form.variable 1)) state (Choices.choose (Num (ratio (pos 1) 2)) Choices.stop Choices.stop) ≡ zeroᵛ)
unfolding state three ratio gcd gcd_steps zeroᵛ zeroʳ leqʳ
choices = (refl, refl, refl)

-- ---- Typing: each line of the table accepted and violated

-- Variable 0 is a Bool, 1 an Int, 2 a UInt, and each other one a UReal.
types : Types
types zero = Ty.Bool
types (suc zero) = Ty.Int
types (suc (suc zero)) = Ty.UInt
types (suc (suc (suc x))) = Ty.UReal

-- Nonnegative and negative integers, fractions and infinity; a negative fraction has no type.
constant_types : (type_of types (Form.number (finite (ratio (pos 3) 1))) ≡ Some NumberType.uint) × (type_of types (Form.number (finite (ratio (negsuc 2) 1))) ≡ Some NumberType.int) × (type_of types (Form.number (finite (ratio (pos 1) 2))) ≡ Some NumberType.ureal) × (type_of types (Form.number infinite) ≡ Some NumberType.eureal) × (type_of types (Form.number (finite (ratio (negsuc 0) 2))) ≡ None)
unfolding types ratio gcd gcd_steps zeroʳ leqʳ
constant_types = (refl, refl, refl, refl, refl)

-- A Bool is no number.
variable_types : (type_of types (Form.variable 1) ≡ Some NumberType.int) × (type_of types (Form.variable 2) ≡ Some NumberType.uint) × (type_of types (Form.variable 3) ≡ Some NumberType.ureal) × (type_of types (Form.variable 0) ≡ None)
unfolding types
variable_types = (refl, refl, refl, refl)

-- Int joins UInt, but neither UReal nor EUReal.
sum_types : (type_of types (Form.sum (Form.variable 1) (Form.variable 2)) ≡ Some NumberType.int) × (type_of types (Form.sum (Form.variable 2) (Form.variable 3)) ≡ Some NumberType.ureal) × (type_of types (Form.sum (Form.variable 3) (Form.embed (Cond.flag 0))) ≡ Some NumberType.eureal) × (type_of types (Form.sum (Form.variable 2) (Form.variable 2)) ≡ Some NumberType.uint) × (type_of types (Form.sum (Form.variable 1) (Form.variable 3)) ≡ None) × (type_of types (Form.sum (Form.embed (Cond.flag 0)) (Form.variable 1)) ≡ None)
unfolding types
sum_types = (refl, refl, refl, refl, refl, refl)

min_types : (type_of types (Form.min (Form.variable 1) (Form.variable 2)) ≡ Some NumberType.int) × (type_of types (Form.min (Form.variable 2) (Form.variable 3)) ≡ Some NumberType.ureal) × (type_of types (Form.min (Form.variable 3) (Form.embed (Cond.flag 0))) ≡ Some NumberType.eureal) × (type_of types (Form.min (Form.variable 2) (Form.variable 2)) ≡ Some NumberType.uint) × (type_of types (Form.min (Form.variable 1) (Form.variable 3)) ≡ None) × (type_of types (Form.min (Form.embed (Cond.flag 0)) (Form.variable 1)) ≡ None)
unfolding types
min_types = (refl, refl, refl, refl, refl, refl)

max_types : (type_of types (Form.max (Form.variable 1) (Form.variable 2)) ≡ Some NumberType.int) × (type_of types (Form.max (Form.variable 2) (Form.variable 3)) ≡ Some NumberType.ureal) × (type_of types (Form.max (Form.variable 3) (Form.embed (Cond.flag 0))) ≡ Some NumberType.eureal) × (type_of types (Form.max (Form.variable 2) (Form.variable 2)) ≡ Some NumberType.uint) × (type_of types (Form.max (Form.variable 1) (Form.variable 3)) ≡ None) × (type_of types (Form.max (Form.embed (Cond.flag 0)) (Form.variable 1)) ≡ None)
unfolding types
max_types = (refl, refl, refl, refl, refl, refl)

product_types : ((span : Span) → type_of types (Form.product (Form.variable 2) (Form.variable 3) span) ≡ Some NumberType.ureal) × ((span : Span) → type_of types (Form.product (Form.variable 1) (Form.variable 3) span) ≡ None)
unfolding types
product_types = (λ span. refl, λ span. refl)

-- A plain difference is of integers, a truncated one of unsigned finite numbers.
difference_types : (type_of types (Form.difference (Form.variable 2) (Form.variable 2)) ≡ Some NumberType.int) × (type_of types (Form.difference (Form.variable 1) (Form.variable 2)) ≡ Some NumberType.int) × (type_of types (Form.difference (Form.variable 3) (Form.variable 2)) ≡ None) × (type_of types (Form.difference (Form.embed (Cond.flag 0)) (Form.embed (Cond.flag 0))) ≡ None)
unfolding types
difference_types = (refl, refl, refl, refl)

cut_types : (type_of types (Form.cut (Form.variable 2) (Form.variable 2)) ≡ Some NumberType.uint) × (type_of types (Form.cut (Form.variable 3) (Form.variable 2)) ≡ Some NumberType.ureal) × (type_of types (Form.cut (Form.variable 1) (Form.variable 2)) ≡ None) × (type_of types (Form.cut (Form.embed (Cond.flag 0)) (Form.variable 2)) ≡ None)
unfolding types
cut_types = (refl, refl, refl, refl)

-- A multiple is of an unsigned number, with a nonnegative factor.
scale_types : (type_of types (Form.scale (ratio (pos 1) 2) (Form.variable 2)) ≡ Some NumberType.ureal) × (type_of types (Form.scale (ratio (pos 1) 2) (Form.embed (Cond.flag 0))) ≡ Some NumberType.eureal) × (type_of types (Form.scale (ratio (pos 1) 2) (Form.variable 1)) ≡ None) × (type_of types (Form.scale (ratio (negsuc 0) 2) (Form.variable 2)) ≡ None)
unfolding types ratio gcd gcd_steps zeroʳ leqʳ
scale_types = (refl, refl, refl, refl)

-- The implications are of unsigned numbers.
implication_types : (type_of types (Form.imply (Form.variable 2) (Form.variable 3)) ≡ Some NumberType.eureal) × (type_of types (Form.imply (Form.variable 1) (Form.variable 3)) ≡ None) × (type_of types (Form.imply (Form.variable 3) (Form.variable 1)) ≡ None) × (type_of types (Form.co_imply (Form.variable 2) (Form.embed (Cond.flag 0))) ≡ Some NumberType.eureal) × (type_of types (Form.co_imply (Form.variable 1) (Form.variable 3)) ≡ None) × (type_of types (Form.co_imply (Form.variable 3) (Form.variable 1)) ≡ None)
unfolding types
implication_types = (refl, refl, refl, refl, refl, refl)

validation_types : (type_of types (Form.validate (Form.variable 3)) ≡ Some NumberType.eureal) × (type_of types (Form.validate (Form.variable 1)) ≡ None) × (type_of types (Form.co_validate (Form.embed (Cond.flag 0))) ≡ Some NumberType.eureal) × (type_of types (Form.co_validate (Form.variable 1)) ≡ None)
unfolding types
validation_types = (refl, refl, refl, refl)

condition_types : (type_of types (Form.embed (Cond.flag 0)) ≡ Some NumberType.eureal) × (type_of types (Form.embed (Cond.flag 1)) ≡ None) × (type_of types (Form.iverson (Cond.flag 0)) ≡ Some NumberType.uint) × (type_of types (Form.iverson (Cond.flag 1)) ≡ None)
unfolding types
condition_types = (refl, refl, refl, refl)

select_types : (type_of types (Form.select (Cond.flag 0) (Form.variable 2) (Form.variable 3)) ≡ Some NumberType.ureal) × (type_of types (Form.select (Cond.flag 1) (Form.variable 2) (Form.variable 3)) ≡ None) × (type_of types (Form.select (Cond.flag 0) (Form.variable 1) (Form.variable 3)) ≡ None)
unfolding types
select_types = (refl, refl, refl)

-- A quantifier is over a formula, in which its variable has its type.
binder_types : (type_of types (Form.bind true 0 0 Ty.UInt (Form.variable 0)) ≡ Some NumberType.eureal) × (type_of types (Form.bind false 0 0 Ty.Int (Form.variable 0)) ≡ None) × (type_of types (Form.bind true 0 0 Ty.Bool (Form.iverson (Cond.flag 0))) ≡ Some NumberType.eureal) × (type_of types (Form.bind true 3 3 Ty.Bool (Form.variable 3)) ≡ None)
unfolding types
binder_types = (refl, refl, refl, refl)

connective_types : (is_well_typed types (Cond.flag 0) ≡ true) × (is_well_typed types (Cond.flag 1) ≡ false) × (is_well_typed types (Cond.constant true) ≡ true) × (is_well_typed types (Cond.not (Cond.flag 0)) ≡ true) × (is_well_typed types (Cond.not (Cond.flag 1)) ≡ false) × (is_well_typed types (Cond.and (Cond.flag 0) (Cond.flag 0)) ≡ true) × (is_well_typed types (Cond.and (Cond.flag 0) (Cond.flag 1)) ≡ false) × (is_well_typed types (Cond.and (Cond.flag 1) (Cond.flag 0)) ≡ false) × (is_well_typed types (Cond.or (Cond.flag 0) (Cond.flag 0)) ≡ true) × (is_well_typed types (Cond.or (Cond.flag 0) (Cond.flag 1)) ≡ false) × (is_well_typed types (Cond.or (Cond.flag 1) (Cond.flag 0)) ≡ false) × (is_well_typed types (Cond.same (Cond.flag 0) (Cond.flag 0)) ≡ true) × (is_well_typed types (Cond.same (Cond.flag 0) (Cond.flag 1)) ≡ false) × (is_well_typed types (Cond.same (Cond.flag 1) (Cond.flag 0)) ≡ false)
unfolding types
connective_types = (refl, refl, refl, refl, refl, refl, refl, refl, refl, refl, refl, refl, refl, refl)

-- Comparisons are of finite numbers whose types have a join.
comparison_types : (is_well_typed types (Cond.le (Form.variable 1) (Form.variable 2)) ≡ true) × (is_well_typed types (Cond.le (Form.variable 3) (Form.variable 2)) ≡ true) × (is_well_typed types (Cond.le (Form.variable 1) (Form.variable 3)) ≡ false) × (is_well_typed types (Cond.le (Form.variable 3) (Form.embed (Cond.flag 0))) ≡ false) × (is_well_typed types (Cond.lt (Form.variable 1) (Form.variable 2)) ≡ true) × (is_well_typed types (Cond.lt (Form.variable 3) (Form.variable 2)) ≡ true) × (is_well_typed types (Cond.lt (Form.variable 1) (Form.variable 3)) ≡ false) × (is_well_typed types (Cond.lt (Form.variable 3) (Form.embed (Cond.flag 0))) ≡ false) × (is_well_typed types (Cond.equal (Form.variable 1) (Form.variable 2)) ≡ true) × (is_well_typed types (Cond.equal (Form.variable 3) (Form.variable 2)) ≡ true) × (is_well_typed types (Cond.equal (Form.variable 1) (Form.variable 3)) ≡ false) × (is_well_typed types (Cond.equal (Form.variable 3) (Form.embed (Cond.flag 0))) ≡ false)
unfolding types
comparison_types = (refl, refl, refl, refl, refl, refl, refl, refl, refl, refl, refl, refl)

alternative_types : (is_well_typed types (Cond.ite (Cond.flag 0) (Cond.flag 0) (Cond.flag 0)) ≡ true) × (is_well_typed types (Cond.ite (Cond.flag 1) (Cond.flag 0) (Cond.flag 0)) ≡ false) × (is_well_typed types (Cond.ite (Cond.flag 0) (Cond.flag 1) (Cond.flag 0)) ≡ false) × (is_well_typed types (Cond.ite (Cond.flag 0) (Cond.flag 0) (Cond.flag 1)) ≡ false)
unfolding types
alternative_types = (refl, refl, refl, refl)

-- ---- Suprema and infima

-- sup x: UInt. x
all_numbers : Form
all_numbers = Form.bind true 2 2 Ty.UInt (Form.variable 2)

-- Neither an implication nor validate preserves a supremum; no operator preserves one on the left
-- of an implication.
directions : (is_directed true all_numbers ≡ true) × (is_directed false all_numbers ≡ false) × (is_directed true (Form.min (Form.sum all_numbers (Form.variable 2)) all_numbers) ≡ true) × (is_directed true (Form.imply (Form.variable 2) all_numbers) ≡ false) × (is_directed true (Form.validate all_numbers) ≡ false) × (is_directed true (Form.co_imply (Form.variable 2) all_numbers) ≡ true) × (is_directed true (Form.co_imply all_numbers (Form.variable 2)) ≡ false) × (is_directed true (Form.co_validate all_numbers) ≡ true)
unfolding all_numbers
directions = (refl, refl, refl, refl, refl, refl, refl, refl)

-- sup b: Bool. [b] means 1
heads : Form
heads = Form.bind true 0 0 Ty.Bool (Form.iverson (Cond.flag 0))

one_if : Val → Value
one_if v = cond (truth_of v) oneᵛ zeroᵛ

zero_below : (z : Value) → oneᵛ ≤ᵛ z → zeroᵛ ≤ᵛ z
zero_below z h = ≤ᵛ_trans zeroᵛ oneᵛ z zero-≤ᵛ-one h

heads_means_one : (s : Env) → Means heads s oneᵛ
unfolding heads one_if
heads_means_one s = record { family = one_if; meant = λ v h. refl; best = λ z. (λ h v k. below z h v k, λ h. h (Truth true) refl) }
  where
    below : (z : Value) → oneᵛ ≤ᵛ z → (v : Val) → has Ty.Bool v ≡ true → one_if v ≤ᵛ z
    below z h (Truth true) k = h
    below z h (Truth false) k = zero_below z h
    below z h (Num x) k = absurd (cc)

and_right : (a b : Bool) → (a && b) ≡ true → b ≡ true
and_right true b h = h
and_right false b h = absurd (cc)

zero_whole : ((zeroʳ.den == 1) && leqʳ zeroʳ zeroʳ) ≡ true
unfolding zeroʳ leqʳ ratio
zero_whole = refl

-- inf x: UInt. x means 0
least_number : Form
least_number = Form.bind false 2 2 Ty.UInt (Form.variable 2)

least_number_means_zero : (s : Env) → Means least_number s zeroᵛ
unfolding least_number zeroᵛ
least_number_means_zero s = record { family = λ v. finite (number_of v); meant = λ v h. refl; best = λ z. (λ h v k. ≤ᵛ_trans z zeroᵛ (finite (number_of v)) h (above v k), λ h. h (Num zeroʳ) zero_whole) }
  where
    above : (v : Val) → has Ty.UInt v ≡ true → zeroᵛ ≤ᵛ finite (number_of v)
    above (Truth b) k = absurd (cc)
    above (Num x) k = finite_nonnegative x (record { holds = and_right (x.den == 1) (leqʳ zeroʳ x) k })

-- The operators above suprema in forms that the acts of a coproc generate: draws, choices, rewards,
-- branches and checks.
upward_acts : (is_directed true (Form.sum (Form.scale halfʳ all_numbers) (Form.scale halfʳ all_numbers)) ≡ true) × (is_directed true (Form.bind true 5 5 Ty.UInt all_numbers) ≡ true) × (is_directed true (Form.sum all_numbers (Form.variable 2)) ≡ true) × (is_directed true (Form.select (Cond.flag 0) all_numbers all_numbers) ≡ true) × (is_directed true (Form.max all_numbers all_numbers) ≡ true) × (is_directed true (Form.min (Form.variable 2) all_numbers) ≡ true) × (is_directed true (Form.co_imply (Form.variable 2) (Form.co_validate (Form.max (Form.variable 2) all_numbers))) ≡ true)
unfolding all_numbers
upward_acts = (refl, refl, refl, refl, refl, refl, refl)

-- The operators above infima in forms that the acts of a proc generate.
downward_acts : (is_directed false (Form.sum (Form.scale halfʳ least_number) (Form.scale halfʳ least_number)) ≡ true) × (is_directed false (Form.bind false 5 5 Ty.UInt least_number) ≡ true) × (is_directed false (Form.select (Cond.flag 0) least_number least_number) ≡ true) × (is_directed false (Form.min least_number least_number) ≡ true) × (is_directed false (Form.max (Form.variable 2) least_number) ≡ true) × (is_directed false (Form.imply (Form.variable 2) (Form.validate (Form.min (Form.variable 2) least_number))) ≡ true) × (is_directed false (Form.co_imply (Form.variable 2) least_number) ≡ false) × (is_directed false (Form.co_validate least_number) ≡ false)
unfolding least_number
downward_acts = (refl, refl, refl, refl, refl, refl, refl, refl)
