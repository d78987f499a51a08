-- For the proofs of other crates: a form of Int or UInt has an integer value, and a term that fits
-- a type has a value of it, if the variables have values of their types.
use Rattle.std.proofs.Common.{◌≡◌, ℕ, refl, sym, subst, arith, Bool, true, false, cond, ◌==◌, ◌&&◌}
use Rattle.std.specs.Prelude.{Option, Some, None}
use Rattle.heyvl_num.specs.Rational.{zeroʳ, leqʳ}
use Rattle.heyvl_num.specs.Value.{Value, zeroᵛ, oneᵛ, ◌≤ᵛ◌}
use Rattle.heyvl_num.specs.Value.Value.{finite, infinite}
use Rattle.heyvl_num.specs.WholeNumbers.{IsWhole}
use Rattle.heyvl_num.proofs.exported.Rationals.{≤ʳ_refl}
use Rattle.heyvl_num.proofs.exported.Values.{nonnegative_finite}
use Rattle.heyvl_num.proofs.exported.WholeNumbers.{difference_whole, whole_zero, whole_one, whole_sum, whole_product, whole_cut, whole_min, whole_max, whole_either}
use Rattle.heylo_formula.specs.Operators.{differenceᵛ, finite_part}
use Rattle.heylo_formula.specs.State.{has, number_of, Env}
use Rattle.heylo_formula.specs.Choices.{Choices, left, right}
use Rattle.heylo_formula.specs.Formula.{Form, Term}
use Rattle.heylo_formula.specs.Meaning.{value, holds, term_value}
use Rattle.heylo_formula.specs.Typing.{NumberType, Types, number_type, fits, joined, is_bool, is_unsigned, is_whole_type, only_if, constant_type, difference_type, scale_type, type_of, HasTypes, TermFits}
use Rattle.heylo_formula.specs.declared.types.Ty.{Ty}
use Rattle.heylo_formula.specs.declared.values.Val.{Val}
use Rattle.heylo_formula.specs.declared.values.Val.TheVariants.{Truth, Num}
pub use Rattle.heylo_formula.proofs.TypedValues.{nonnegative_value}

pub whole_difference : (x y : Value) → IsWhole x → IsWhole y → IsWhole (differenceᵛ x y)
unfolding differenceᵛ
whole_difference (finite x) (finite y) h k = difference_whole x y h k
whole_difference (finite x) infinite h k = absurd k
whole_difference infinite y h k = absurd h

-- ---- Types of integers

joined_whole : (t u : Option NumberType) → is_whole_type (joined t u) ≡ true → (is_whole_type t ≡ true) × (is_whole_type u ≡ true)
joined_whole (Some NumberType.int) (Some NumberType.int) h = (refl, refl)
joined_whole (Some NumberType.int) (Some NumberType.uint) h = (refl, refl)
joined_whole (Some NumberType.int) (Some NumberType.ureal) h = absurd (cc)
joined_whole (Some NumberType.int) (Some NumberType.eureal) h = absurd (cc)
joined_whole (Some NumberType.int) None h = absurd (cc)
joined_whole (Some NumberType.uint) (Some NumberType.int) h = (refl, refl)
joined_whole (Some NumberType.uint) (Some NumberType.uint) h = (refl, refl)
joined_whole (Some NumberType.uint) (Some NumberType.ureal) h = absurd (cc)
joined_whole (Some NumberType.uint) (Some NumberType.eureal) h = absurd (cc)
joined_whole (Some NumberType.uint) None h = absurd (cc)
joined_whole (Some NumberType.ureal) (Some NumberType.int) h = absurd (cc)
joined_whole (Some NumberType.ureal) (Some NumberType.uint) h = absurd (cc)
joined_whole (Some NumberType.ureal) (Some NumberType.ureal) h = absurd (cc)
joined_whole (Some NumberType.ureal) (Some NumberType.eureal) h = absurd (cc)
joined_whole (Some NumberType.ureal) None h = absurd (cc)
joined_whole (Some NumberType.eureal) (Some NumberType.int) h = absurd (cc)
joined_whole (Some NumberType.eureal) (Some NumberType.uint) h = absurd (cc)
joined_whole (Some NumberType.eureal) (Some NumberType.ureal) h = absurd (cc)
joined_whole (Some NumberType.eureal) (Some NumberType.eureal) h = absurd (cc)
joined_whole (Some NumberType.eureal) None h = absurd (cc)
joined_whole None u h = absurd (cc)

only_whole : (b : Bool) (t : Option NumberType) → is_whole_type (only_if b t) ≡ true → is_whole_type t ≡ true
only_whole true t h = h
only_whole false t h = absurd (cc)

endless : (b : Bool) → {A : Type 0} → is_whole_type (only_if b (Some NumberType.eureal)) ≡ true → A
endless true h = absurd (cc)
endless false h = absurd (cc)

difference_type_whole : (t : Option NumberType) → is_whole_type (difference_type t) ≡ true → is_whole_type t ≡ true
difference_type_whole (Some NumberType.int) h = refl
difference_type_whole (Some NumberType.uint) h = refl
difference_type_whole (Some NumberType.ureal) h = absurd (cc)
difference_type_whole (Some NumberType.eureal) h = absurd (cc)
difference_type_whole None h = absurd (cc)

scale_type_whole : (t : Option NumberType) → {A : Type 0} → is_whole_type (scale_type t) ≡ true → A
scale_type_whole (Some NumberType.int) h = absurd (cc)
scale_type_whole (Some NumberType.uint) h = absurd (cc)
scale_type_whole (Some NumberType.ureal) h = absurd (cc)
scale_type_whole (Some NumberType.eureal) h = absurd (cc)
scale_type_whole None h = absurd (cc)

equal_is : (n : ℕ) → (n == 1) ≡ true → n ≡ 1
equal_is n h = grind arith

is_equal : (n : ℕ) → n ≡ 1 → (n == 1) ≡ true
is_equal n h = grind arith

and_both : (a b : Bool) → (a && b) ≡ true → (a ≡ true) × (b ≡ true)
and_both true b h = (refl, h)
and_both false b h = absurd (cc)

constant_whole : (v : Value) → is_whole_type (constant_type v) ≡ true → IsWhole v
constant_whole (finite x) h = go (leqʳ zeroʳ x) (x.den == 1) refl h
  where
    go : (b d : Bool) → (x.den == 1) ≡ d → is_whole_type (cond b (Some (cond d NumberType.uint NumberType.ureal)) (only_if d (Some NumberType.int))) ≡ true → x.den ≡ 1
    go true true e k = equal_is x.den e
    go true false e k = absurd (cc)
    go false true e k = equal_is x.den e
    go false false e k = absurd (cc)
constant_whole infinite h = absurd (cc)

variable_whole : (ty : Ty) (v : Val) → is_whole_type (number_type ty) ≡ true → has ty v ≡ true → IsWhole (finite (number_of v))
variable_whole Ty.Bool v h k = absurd (cc)
variable_whole Ty.Int (Truth b) h k = absurd (cc)
variable_whole Ty.Int (Num x) h k = equal_is x.den k
variable_whole Ty.UInt (Truth b) h k = absurd (cc)
variable_whole Ty.UInt (Num x) h k = equal_is x.den (and_both (x.den == 1) (leqʳ zeroʳ x) k).0
variable_whole Ty.UReal v h k = absurd (cc)

pub whole_value : (types : Types) (f : Form) (s : Env) (c : Choices) → HasTypes types s → is_whole_type (type_of types f) ≡ true → IsWhole (value f s c)
whole_value types (Form.number v) s c e h = constant_whole v h
whole_value types (Form.variable x) s c e h = variable_whole (types x) (s x) h (e.typed x)
whole_value types (Form.sum a b) s c e h = let p = joined_whole (type_of types a) (type_of types b) h in whole_sum _ _ (whole_value types a s (left c) e p.0) (whole_value types b s (right c) e p.1)
whole_value types (Form.difference a b) s c e h = let p = joined_whole (type_of types a) (type_of types b) (difference_type_whole _ h) in whole_difference _ _ (whole_value types a s (left c) e p.0) (whole_value types b s (right c) e p.1)
whole_value types (Form.cut a b) s c e h = let p = joined_whole (type_of types a) (type_of types b) (only_whole _ _ h) in whole_cut _ _ (whole_value types a s (left c) e p.0) (whole_value types b s (right c) e p.1)
whole_value types (Form.scale w a) s c e h = scale_type_whole (type_of types a) (only_whole _ _ h)
whole_value types (Form.product a b span) s c e h = let p = joined_whole (type_of types a) (type_of types b) h in whole_product _ _ (whole_value types a s (left c) e p.0) (whole_value types b s (right c) e p.1)
whole_value types (Form.min a b) s c e h = let p = joined_whole (type_of types a) (type_of types b) h in whole_min _ _ (whole_value types a s (left c) e p.0) (whole_value types b s (right c) e p.1)
whole_value types (Form.max a b) s c e h = let p = joined_whole (type_of types a) (type_of types b) h in whole_max _ _ (whole_value types a s (left c) e p.0) (whole_value types b s (right c) e p.1)
whole_value types (Form.imply a b) s c e h = endless _ h
whole_value types (Form.co_imply a b) s c e h = endless _ h
whole_value types (Form.validate a) s c e h = endless _ h
whole_value types (Form.co_validate a) s c e h = endless _ h
whole_value types (Form.embed g) s c e h = endless _ h
whole_value types (Form.iverson g) s c e h = whole_either (holds g s c) oneᵛ zeroᵛ whole_one whole_zero
whole_value types (Form.select g a b) s c e h = let p = joined_whole (type_of types a) (type_of types b) (only_whole _ _ h) in whole_either (holds g s (left c)) _ _ (whole_value types a s (right c) e p.0) (whole_value types b s (right c) e p.1)
whole_value types (Form.bind up x name ty a) s c e h = endless _ h

-- ---- Terms

part_whole : (v : Value) → IsWhole v → (finite_part v).den ≡ 1
part_whole (finite x) h = h
part_whole infinite h = absurd h

part_from_zero : (v : Value) → zeroᵛ ≤ᵛ v → leqʳ zeroʳ (finite_part v) ≡ true
part_from_zero (finite x) h = (nonnegative_finite x h).holds
part_from_zero infinite h = (≤ʳ_refl zeroʳ).holds

whole_in : (t : Option NumberType) → fits t (Some NumberType.int) ≡ true → is_whole_type t ≡ true
whole_in (Some NumberType.int) h = refl
whole_in (Some NumberType.uint) h = refl
whole_in (Some NumberType.ureal) h = absurd (cc)
whole_in (Some NumberType.eureal) h = absurd (cc)
whole_in None h = absurd (cc)

natural_in : (t : Option NumberType) → fits t (Some NumberType.uint) ≡ true → (is_whole_type t ≡ true) × (is_unsigned t ≡ true)
natural_in (Some NumberType.int) h = absurd (cc)
natural_in (Some NumberType.uint) h = (refl, refl)
natural_in (Some NumberType.ureal) h = absurd (cc)
natural_in (Some NumberType.eureal) h = absurd (cc)
natural_in None h = absurd (cc)

fraction_in : (t : Option NumberType) → fits t (Some NumberType.ureal) ≡ true → is_unsigned t ≡ true
fraction_in (Some NumberType.int) h = absurd (cc)
fraction_in (Some NumberType.uint) h = refl
fraction_in (Some NumberType.ureal) h = refl
fraction_in (Some NumberType.eureal) h = absurd (cc)
fraction_in None h = absurd (cc)

both_true : (a b : Bool) → a ≡ true → b ≡ true → (a && b) ≡ true
both_true a b h k = rw (h, k)

number_typed : (types : Types) (ty : Ty) (f : Form) (s : Env) → HasTypes types s → is_bool ty ≡ false → fits (type_of types f) (number_type ty) ≡ true → has ty (Num (finite_part (value f s Choices.stop))) ≡ true
number_typed types Ty.Bool f s e b h = absurd (cc)
number_typed types Ty.Int f s e b h = is_equal _ (part_whole _ (whole_value types f s Choices.stop e (whole_in (type_of types f) h)))
number_typed types Ty.UInt f s e b h = let p = natural_in (type_of types f) h in both_true _ _ (is_equal _ (part_whole _ (whole_value types f s Choices.stop e p.0))) (part_from_zero _ (nonnegative_value types f s Choices.stop p.1 e))
number_typed types Ty.UReal f s e b h = part_from_zero _ (nonnegative_value types f s Choices.stop (fraction_in (type_of types f) h) e)

pub term_typed : (types : Types) (ty : Ty) (t : Term) (s : Env) → TermFits types ty t → HasTypes types s → has ty (term_value t s) ≡ true
term_typed types ty (Term.truth g) s h e = subst (λ (u : Ty). has u (Truth (holds g s Choices.stop)) ≡ true) (sym h.0) refl
term_typed types ty (Term.number f) s h e = number_typed types ty f s e h.0 h.1
