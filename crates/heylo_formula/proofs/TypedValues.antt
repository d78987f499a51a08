-- The values of well-typed forms: which are finite, and that formulas are nonnegative.
use Rattle.std.proofs.Common.{◌≡◌, ℕ, refl, Bool, true, false, cond, ◌==◌, ◌&&◌}
use Rattle.std.specs.Prelude.{Option, Some, None}
use Rattle.heyvl_num.specs.Rational.{ratio, zeroʳ, leqʳ, ◌-ʳ◌}
use Rattle.heyvl_num.specs.Value.{Value, zeroᵛ, oneᵛ, ◌+ᵛ◌, ◌*ᵛ◌, leqᵛ, is_zeroʳ, ◌≤ᵛ◌}
use Rattle.heyvl_num.specs.Value.Value.{finite, infinite}
use Rattle.heyvl_num.specs.ValueOperators.{minᵛ, maxᵛ, impliesᵛ, monusᵛ}
use Rattle.heyvl_num.proofs.exported.Signs.{difference_nonnegative}
use Rattle.heyvl_num.proofs.exported.Values.{≤ᵛ_refl, ≤ᵛ_infinite, zero-≤ᵛ-one, +ᵛ_nonnegative, *ᵛ_nonnegative, scale_nonnegative, finite_nonnegative}
use Rattle.heyvl_num.proofs.exported.Operators.{coimplies_nonnegative}
use Rattle.heylo_formula.specs.Operators.{differenceᵛ, validateᵛ, covalidateᵛ, is_finite}
use Rattle.heylo_formula.specs.State.{Env, put, fit, has, default, number_of}
use Rattle.heylo_formula.specs.Choices.{Choices, here, left, right}
use Rattle.heylo_formula.specs.Formula.{Form}
use Rattle.heylo_formula.specs.Meaning.{value, holds}
use Rattle.heylo_formula.specs.Typing.{NumberType, Types, retyped, number_type, joined, is_finite_type, is_unsigned, only_if, constant_type, difference_type, scale_type, type_of, is_well_typed, HasTypes}
use Rattle.heylo_formula.specs.declared.types.Ty.{Ty}
use Rattle.heylo_formula.specs.declared.values.Val.{Val}
use Rattle.heylo_formula.specs.declared.values.Val.TheVariants.{Truth, Num}

-- ---- Types

joined_finite : (t u : Option NumberType) → is_finite_type (joined t u) ≡ true → (is_finite_type t ≡ true) × (is_finite_type u ≡ true)
joined_finite (Some NumberType.int) (Some NumberType.int) h = (refl, refl)
joined_finite (Some NumberType.int) (Some NumberType.uint) h = (refl, refl)
joined_finite (Some NumberType.int) (Some NumberType.ureal) h = absurd (cc)
joined_finite (Some NumberType.int) (Some NumberType.eureal) h = absurd (cc)
joined_finite (Some NumberType.int) None h = absurd (cc)
joined_finite (Some NumberType.uint) (Some NumberType.int) h = (refl, refl)
joined_finite (Some NumberType.uint) (Some NumberType.uint) h = (refl, refl)
joined_finite (Some NumberType.uint) (Some NumberType.ureal) h = (refl, refl)
joined_finite (Some NumberType.uint) (Some NumberType.eureal) h = absurd (cc)
joined_finite (Some NumberType.uint) None h = absurd (cc)
joined_finite (Some NumberType.ureal) (Some NumberType.int) h = absurd (cc)
joined_finite (Some NumberType.ureal) (Some NumberType.uint) h = (refl, refl)
joined_finite (Some NumberType.ureal) (Some NumberType.ureal) h = (refl, refl)
joined_finite (Some NumberType.ureal) (Some NumberType.eureal) h = absurd (cc)
joined_finite (Some NumberType.ureal) None h = absurd (cc)
joined_finite (Some NumberType.eureal) (Some NumberType.int) h = absurd (cc)
joined_finite (Some NumberType.eureal) (Some NumberType.uint) h = absurd (cc)
joined_finite (Some NumberType.eureal) (Some NumberType.ureal) h = absurd (cc)
joined_finite (Some NumberType.eureal) (Some NumberType.eureal) h = absurd (cc)
joined_finite (Some NumberType.eureal) None h = absurd (cc)
joined_finite None u h = absurd (cc)

joined_unsigned : (t u : Option NumberType) → is_unsigned (joined t u) ≡ true → (is_unsigned t ≡ true) × (is_unsigned u ≡ true)
joined_unsigned (Some NumberType.int) (Some NumberType.int) h = absurd (cc)
joined_unsigned (Some NumberType.int) (Some NumberType.uint) h = absurd (cc)
joined_unsigned (Some NumberType.int) (Some NumberType.ureal) h = absurd (cc)
joined_unsigned (Some NumberType.int) (Some NumberType.eureal) h = absurd (cc)
joined_unsigned (Some NumberType.int) None h = absurd (cc)
joined_unsigned (Some NumberType.uint) (Some NumberType.int) h = absurd (cc)
joined_unsigned (Some NumberType.uint) (Some NumberType.uint) h = (refl, refl)
joined_unsigned (Some NumberType.uint) (Some NumberType.ureal) h = (refl, refl)
joined_unsigned (Some NumberType.uint) (Some NumberType.eureal) h = (refl, refl)
joined_unsigned (Some NumberType.uint) None h = absurd (cc)
joined_unsigned (Some NumberType.ureal) (Some NumberType.int) h = absurd (cc)
joined_unsigned (Some NumberType.ureal) (Some NumberType.uint) h = (refl, refl)
joined_unsigned (Some NumberType.ureal) (Some NumberType.ureal) h = (refl, refl)
joined_unsigned (Some NumberType.ureal) (Some NumberType.eureal) h = (refl, refl)
joined_unsigned (Some NumberType.ureal) None h = absurd (cc)
joined_unsigned (Some NumberType.eureal) (Some NumberType.int) h = absurd (cc)
joined_unsigned (Some NumberType.eureal) (Some NumberType.uint) h = (refl, refl)
joined_unsigned (Some NumberType.eureal) (Some NumberType.ureal) h = (refl, refl)
joined_unsigned (Some NumberType.eureal) (Some NumberType.eureal) h = (refl, refl)
joined_unsigned (Some NumberType.eureal) None h = absurd (cc)
joined_unsigned None u h = absurd (cc)

only_finite : (b : Bool) (t : Option NumberType) → is_finite_type (only_if b t) ≡ true → is_finite_type t ≡ true
only_finite true t h = h
only_finite false t h = absurd (cc)

only_unsigned : (b : Bool) (t : Option NumberType) → is_unsigned (only_if b t) ≡ true → (b ≡ true) × (is_unsigned t ≡ true)
only_unsigned true t h = (refl, h)
only_unsigned false t h = absurd (cc)

endless : (b : Bool) → {A : Type 0} → is_finite_type (only_if b (Some NumberType.eureal)) ≡ true → A
endless true h = absurd (cc)
endless false h = absurd (cc)

difference_finite : (t : Option NumberType) → is_finite_type (difference_type t) ≡ true → is_finite_type t ≡ true
difference_finite (Some NumberType.int) h = refl
difference_finite (Some NumberType.uint) h = refl
difference_finite (Some NumberType.ureal) h = absurd (cc)
difference_finite (Some NumberType.eureal) h = absurd (cc)
difference_finite None h = absurd (cc)

difference_signed : (t : Option NumberType) → is_unsigned (difference_type t) ≡ true → ⊥
difference_signed (Some NumberType.int) h = absurd (cc)
difference_signed (Some NumberType.uint) h = absurd (cc)
difference_signed (Some NumberType.ureal) h = absurd (cc)
difference_signed (Some NumberType.eureal) h = absurd (cc)
difference_signed None h = absurd (cc)

scale_finite : (t : Option NumberType) → is_finite_type (scale_type t) ≡ true → is_finite_type t ≡ true
scale_finite (Some NumberType.int) h = absurd (cc)
scale_finite (Some NumberType.uint) h = refl
scale_finite (Some NumberType.ureal) h = refl
scale_finite (Some NumberType.eureal) h = absurd (cc)
scale_finite None h = absurd (cc)

scale_unsigned : (t : Option NumberType) → is_unsigned (scale_type t) ≡ true → is_unsigned t ≡ true
scale_unsigned (Some NumberType.int) h = absurd (cc)
scale_unsigned (Some NumberType.uint) h = refl
scale_unsigned (Some NumberType.ureal) h = refl
scale_unsigned (Some NumberType.eureal) h = refl
scale_unsigned None h = absurd (cc)

and_both : (a b : Bool) → (a && b) ≡ true → (a ≡ true) × (b ≡ true)
and_both true b h = (refl, h)
and_both false b h = absurd (cc)

-- The operands of a formula are formulas.
pub joined_parts : (t u : Option NumberType) → is_unsigned (joined t u) ≡ true → (is_unsigned t ≡ true) × (is_unsigned u ≡ true)
joined_parts = joined_unsigned

pub only_parts : (a b : Bool) (t : Option NumberType) → is_unsigned (only_if (a && b) t) ≡ true → (a ≡ true) × (b ≡ true)
only_parts a b t h = and_both a b (only_unsigned (a && b) t h).0

pub only_part : (b : Bool) (t : Option NumberType) → is_unsigned (only_if b t) ≡ true → (b ≡ true) × (is_unsigned t ≡ true)
only_part = only_unsigned

pub scaled_part : (b : Bool) (t : Option NumberType) → is_unsigned (only_if b (scale_type t)) ≡ true → (b ≡ true) × (is_unsigned t ≡ true)
scaled_part b t h = ((only_unsigned b (scale_type t) h).0, scale_unsigned t (only_unsigned b (scale_type t) h).1)

-- ---- Finite values

finite_sum : (x y : Value) → is_finite x ≡ true → is_finite y ≡ true → is_finite (x +ᵛ y) ≡ true
unfolding ◌+ᵛ◌
finite_sum (finite x) (finite y) h k = refl
finite_sum (finite x) infinite h k = absurd (cc)
finite_sum infinite y h k = absurd (cc)

finite_product : (x y : Value) → is_finite x ≡ true → is_finite y ≡ true → is_finite (x *ᵛ y) ≡ true
unfolding ◌*ᵛ◌
finite_product (finite x) (finite y) h k = refl
finite_product (finite x) infinite h k = absurd (cc)
finite_product infinite y h k = absurd (cc)

finite_difference : (x y : Value) → is_finite x ≡ true → is_finite y ≡ true → is_finite (differenceᵛ x y) ≡ true
unfolding differenceᵛ
finite_difference (finite x) (finite y) h k = refl
finite_difference (finite x) infinite h k = absurd (cc)
finite_difference infinite y h k = absurd (cc)

finite_zero : is_finite zeroᵛ ≡ true
unfolding zeroᵛ
finite_zero = refl

finite_one : is_finite oneᵛ ≡ true
unfolding oneᵛ
finite_one = refl

finite_either : (b : Bool) (x y : Value) → is_finite x ≡ true → is_finite y ≡ true → is_finite (cond b x y) ≡ true
finite_either true x y h k = h
finite_either false x y h k = k

finite_cut : (x y : Value) → is_finite x ≡ true → is_finite y ≡ true → is_finite (monusᵛ x y) ≡ true
unfolding monusᵛ
finite_cut (finite x) (finite y) h k = finite_either (leqʳ y x) (finite (x -ʳ y)) zeroᵛ refl finite_zero
finite_cut (finite x) infinite h k = absurd (cc)
finite_cut infinite y h k = absurd (cc)

finite_min : (x y : Value) → is_finite x ≡ true → is_finite y ≡ true → is_finite (minᵛ x y) ≡ true
unfolding minᵛ
finite_min x y h k = finite_either (leqᵛ x y) x y h k

finite_max : (x y : Value) → is_finite x ≡ true → is_finite y ≡ true → is_finite (maxᵛ x y) ≡ true
unfolding maxᵛ
finite_max x y h k = finite_either (leqᵛ x y) y x k h

pub finite_value : (types : Types) (f : Form) (s : Env) (c : Choices) → is_finite_type (type_of types f) ≡ true → is_finite (value f s c) ≡ true
finite_value types (Form.number (finite x)) s c h = refl
finite_value types (Form.number infinite) s c h = absurd (cc)
finite_value types (Form.variable x) s c h = refl
finite_value types (Form.sum a b) s c h = let p = joined_finite (type_of types a) (type_of types b) h in finite_sum _ _ (finite_value types a s (left c) p.0) (finite_value types b s (right c) p.1)
finite_value types (Form.difference a b) s c h = let p = joined_finite (type_of types a) (type_of types b) (difference_finite _ h) in finite_difference _ _ (finite_value types a s (left c) p.0) (finite_value types b s (right c) p.1)
finite_value types (Form.cut a b) s c h = let p = joined_finite (type_of types a) (type_of types b) (only_finite _ _ h) in finite_cut _ _ (finite_value types a s (left c) p.0) (finite_value types b s (right c) p.1)
finite_value types (Form.scale w a) s c h = finite_product _ _ refl (finite_value types a s c (scale_finite _ (only_finite _ _ h)))
finite_value types (Form.product a b span) s c h = let p = joined_finite (type_of types a) (type_of types b) h in finite_product _ _ (finite_value types a s (left c) p.0) (finite_value types b s (right c) p.1)
finite_value types (Form.min a b) s c h = let p = joined_finite (type_of types a) (type_of types b) h in finite_min _ _ (finite_value types a s (left c) p.0) (finite_value types b s (right c) p.1)
finite_value types (Form.max a b) s c h = let p = joined_finite (type_of types a) (type_of types b) h in finite_max _ _ (finite_value types a s (left c) p.0) (finite_value types b s (right c) p.1)
finite_value types (Form.imply a b) s c h = endless _ h
finite_value types (Form.co_imply a b) s c h = endless _ h
finite_value types (Form.validate a) s c h = endless _ h
finite_value types (Form.co_validate a) s c h = endless _ h
finite_value types (Form.embed g) s c h = endless _ h
finite_value types (Form.iverson g) s c h = finite_either (holds g s c) oneᵛ zeroᵛ finite_one finite_zero
finite_value types (Form.select g a b) s c h = let p = joined_finite (type_of types a) (type_of types b) (only_finite _ _ h) in finite_either (holds g s (left c)) _ _ (finite_value types a s (right c) p.0) (finite_value types b s (right c) p.1)
finite_value types (Form.bind up x name ty a) s c h = endless _ h

-- ---- Nonnegative values

either : (b : Bool) (x y : Value) → zeroᵛ ≤ᵛ x → zeroᵛ ≤ᵛ y → zeroᵛ ≤ᵛ cond b x y
either true x y h k = h
either false x y h k = k

zero_zero : zeroᵛ ≤ᵛ zeroᵛ
zero_zero = ≤ᵛ_refl zeroᵛ

cut_nonnegative : (x y : Value) → zeroᵛ ≤ᵛ monusᵛ x y
unfolding monusᵛ
cut_nonnegative (finite x) (finite y) = go (leqʳ y x) refl
  where
    go : (b : Bool) → leqʳ y x ≡ b → zeroᵛ ≤ᵛ cond b (finite (x -ʳ y)) zeroᵛ
    go true e = finite_nonnegative (x -ʳ y) ((difference_nonnegative y x).1 (record { holds = e }))
    go false e = zero_zero
cut_nonnegative (finite x) infinite = zero_zero
cut_nonnegative infinite (finite y) = ≤ᵛ_infinite zeroᵛ
cut_nonnegative infinite infinite = zero_zero

min_nonnegative : (x y : Value) → zeroᵛ ≤ᵛ x → zeroᵛ ≤ᵛ y → zeroᵛ ≤ᵛ minᵛ x y
unfolding minᵛ
min_nonnegative x y h k = either (leqᵛ x y) x y h k

max_nonnegative : (x y : Value) → zeroᵛ ≤ᵛ x → zeroᵛ ≤ᵛ y → zeroᵛ ≤ᵛ maxᵛ x y
unfolding maxᵛ
max_nonnegative x y h k = either (leqᵛ x y) y x k h

implies_nonnegative : (x y : Value) → zeroᵛ ≤ᵛ y → zeroᵛ ≤ᵛ impliesᵛ x y
unfolding impliesᵛ
implies_nonnegative x y h = either (leqᵛ x y) infinite y (≤ᵛ_infinite zeroᵛ) h

pub validate_nonnegative : (x : Value) → zeroᵛ ≤ᵛ validateᵛ x
unfolding validateᵛ
validate_nonnegative (finite x) = zero_zero
validate_nonnegative infinite = ≤ᵛ_infinite zeroᵛ

pub covalidate_nonnegative : (x : Value) → zeroᵛ ≤ᵛ covalidateᵛ x
unfolding covalidateᵛ
covalidate_nonnegative (finite x) = either (is_zeroʳ x) zeroᵛ infinite zero_zero (≤ᵛ_infinite zeroᵛ)
covalidate_nonnegative infinite = ≤ᵛ_infinite zeroᵛ

constant_nonnegative : (v : Value) → is_unsigned (constant_type v) ≡ true → zeroᵛ ≤ᵛ v
constant_nonnegative (finite x) h = go (leqʳ zeroʳ x) (x.den == 1) refl h
  where
    go : (b d : Bool) → leqʳ zeroʳ x ≡ b → is_unsigned (cond b (Some (cond d NumberType.uint NumberType.ureal)) (only_if d (Some NumberType.int))) ≡ true → zeroᵛ ≤ᵛ finite x
    go true d e k = finite_nonnegative x (record { holds = e })
    go false true e k = absurd (cc)
    go false false e k = absurd (cc)
constant_nonnegative infinite h = ≤ᵛ_infinite zeroᵛ

variable_nonnegative : (ty : Ty) (v : Val) → is_unsigned (number_type ty) ≡ true → has ty v ≡ true → zeroᵛ ≤ᵛ finite (number_of v)
variable_nonnegative Ty.Bool v h k = absurd (cc)
variable_nonnegative Ty.Int v h k = absurd (cc)
variable_nonnegative Ty.UInt (Truth b) h k = absurd (cc)
variable_nonnegative Ty.UInt (Num x) h k = finite_nonnegative x (record { holds = (and_both (x.den == 1) (leqʳ zeroʳ x) k).1 })
variable_nonnegative Ty.UReal (Truth b) h k = absurd (cc)
variable_nonnegative Ty.UReal (Num x) h k = finite_nonnegative x (record { holds = k })

zero_whole : ((zeroʳ.den == 1) && leqʳ zeroʳ zeroʳ) ≡ true
unfolding zeroʳ leqʳ ratio
zero_whole = refl

default_has : (ty : Ty) → has ty (default ty) ≡ true
default_has Ty.Bool = refl
default_has Ty.Int = (and_both (zeroʳ.den == 1) (leqʳ zeroʳ zeroʳ) zero_whole).0
default_has Ty.UInt = zero_whole
default_has Ty.UReal = (and_both (zeroʳ.den == 1) (leqʳ zeroʳ zeroʳ) zero_whole).1

pub fit_has : (ty : Ty) (v : Val) → has ty (fit ty v) ≡ true
fit_has ty v = go (has ty v) refl
  where
    go : (b : Bool) → has ty v ≡ b → has ty (cond b v (default ty)) ≡ true
    go true e = e
    go false e = default_has ty

pub fit_same : (ty : Ty) (v : Val) → has ty v ≡ true → fit ty v ≡ v
fit_same ty v h = rw h

pub put_typed : (types : Types) (s : Env) (x : ℕ) (ty : Ty) (v : Val) → HasTypes types s → has ty v ≡ true → HasTypes (retyped x ty types) (put x v s)
put_typed types s x ty v h k = record { typed = λ y. go y (x == y) }
  where
    go : (y : ℕ) (b : Bool) → has (cond b ty (types y)) (cond b v (s y)) ≡ true
    go y true = k
    go y false = h.typed y

pub nonnegative_value : (types : Types) (f : Form) (s : Env) (c : Choices) → is_unsigned (type_of types f) ≡ true → HasTypes types s → zeroᵛ ≤ᵛ value f s c
nonnegative_value types (Form.number v) s c h e = constant_nonnegative v h
nonnegative_value types (Form.variable x) s c h e = variable_nonnegative (types x) (s x) h (e.typed x)
nonnegative_value types (Form.sum a b) s c h e = let p = joined_unsigned (type_of types a) (type_of types b) h in +ᵛ_nonnegative _ _ (nonnegative_value types a s (left c) p.0 e) (nonnegative_value types b s (right c) p.1 e)
nonnegative_value types (Form.difference a b) s c h e = absurd (difference_signed _ h)
nonnegative_value types (Form.cut a b) s c h e = cut_nonnegative _ _
nonnegative_value types (Form.scale w a) s c h e = let p = scaled_part (leqʳ zeroʳ w) (type_of types a) h in scale_nonnegative w _ (record { holds = p.0 }) (nonnegative_value types a s c p.1 e)
nonnegative_value types (Form.product a b span) s c h e = let p = joined_unsigned (type_of types a) (type_of types b) h in *ᵛ_nonnegative _ _ (nonnegative_value types a s (left c) p.0 e) (nonnegative_value types b s (right c) p.1 e)
nonnegative_value types (Form.min a b) s c h e = let p = joined_unsigned (type_of types a) (type_of types b) h in min_nonnegative _ _ (nonnegative_value types a s (left c) p.0 e) (nonnegative_value types b s (right c) p.1 e)
nonnegative_value types (Form.max a b) s c h e = let p = joined_unsigned (type_of types a) (type_of types b) h in max_nonnegative _ _ (nonnegative_value types a s (left c) p.0 e) (nonnegative_value types b s (right c) p.1 e)
nonnegative_value types (Form.imply a b) s c h e = let p = only_parts (is_unsigned (type_of types a)) (is_unsigned (type_of types b)) (Some NumberType.eureal) h in implies_nonnegative _ _ (nonnegative_value types b s (right c) p.1 e)
nonnegative_value types (Form.co_imply a b) s c h e = let p = only_parts (is_unsigned (type_of types a)) (is_unsigned (type_of types b)) (Some NumberType.eureal) h in coimplies_nonnegative _ _ (nonnegative_value types b s (right c) p.1 e)
nonnegative_value types (Form.validate a) s c h e = validate_nonnegative _
nonnegative_value types (Form.co_validate a) s c h e = covalidate_nonnegative _
nonnegative_value types (Form.embed g) s c h e = either (holds g s c) infinite zeroᵛ (≤ᵛ_infinite zeroᵛ) zero_zero
nonnegative_value types (Form.iverson g) s c h e = either (holds g s c) oneᵛ zeroᵛ zero-≤ᵛ-one zero_zero
nonnegative_value types (Form.select g a b) s c h e = let p = joined_unsigned (type_of types a) (type_of types b) (only_unsigned (is_well_typed types g) _ h).1 in either (holds g s (left c)) _ _ (nonnegative_value types a s (right c) p.0 e) (nonnegative_value types b s (right c) p.1 e)
nonnegative_value types (Form.bind up x name ty a) s c h e = nonnegative_value (retyped x ty types) a (put x (fit ty (here c)) s) (left c) (only_unsigned (is_unsigned (type_of (retyped x ty types) a)) (Some NumberType.eureal) h).0 (put_typed types s x ty (fit ty (here c)) e (fit_has ty (here c)))
