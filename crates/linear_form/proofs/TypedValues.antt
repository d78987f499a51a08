-- A well-typed form has a value of its type, in each state of the right types.
use Rattle.std.proofs.Common.{◌≡◌, ℕ, List, [], ◌∷◌, get_or, refl, sym, ap, ◌∙◌, subst, Bool, true, false, cond, ◌==◌, ◌&&◌, ◌||◌}
use Rattle.std.specs.Prelude.{Option, Some, None}
use Prim.Native.Nat.{zero, suc}
use Rattle.heyvl_num.specs.Gcd.{gcd, gcd_steps}
use Rattle.heyvl_num.specs.Rational.{Rational, ratio, zeroʳ, leqʳ, ◌-ʳ◌}
use Rattle.heyvl_num.specs.Value.{Value, zeroᵛ, oneᵛ, is_zeroʳ, leqᵛ, ◌≤ᵛ◌, ◌+ᵛ◌, ◌*ᵛ◌}
use Rattle.heyvl_num.specs.Value.Value.{finite, infinite}
use Rattle.heyvl_num.specs.ValueOperators.{minᵛ, maxᵛ, impliesᵛ, coimpliesᵛ, monusᵛ}
use Rattle.heyvl_num.proofs.exported.Values.{≤ᵛ_infinite, zero-≤ᵛ-zero, zero-≤ᵛ-one, +ᵛ_nonnegative, *ᵛ_nonnegative, scale_nonnegative, finite_nonnegative}
use Rattle.heyvl_num.proofs.exported.Signs.{difference_nonnegative}
use Rattle.heylo_formula.specs.Formula.{Form}
use Rattle.heylo_formula.specs.Operators.{differenceᵛ, validateᵛ, covalidateᵛ, is_finite}
use Rattle.heylo_formula.specs.State.{Env, environment, IsTyped, has, fit, default, put, number_of}
use Rattle.heylo_formula.specs.Choices.{Choices, here, left, right}
use Rattle.heylo_formula.specs.Meaning.{value, holds}
use Rattle.heylo_formula.specs.Typing.{HasTypes, NumberType, Types, retyped, number_type, join, joined, is_unsigned, only_if, constant_type, difference_type, scale_type, type_of, types_in}
use Rattle.heylo_formula.specs.declared.types.Ty.{Ty}
use Rattle.heylo_formula.specs.declared.values.Val.{Val}
use Rattle.heylo_formula.specs.declared.values.Val.TheVariants.{Truth, Num}

typed_list : (tys : List Ty) (s : List Val) (x : ℕ) → IsTyped tys s → has (types_in tys x) (environment s x) ≡ true
typed_list [] s x h = ap (λ l. has Ty.Bool (get_or l x (Truth false))) h
typed_list (ty ∷ tys) [] x h = absurd h
typed_list (ty ∷ tys) (v ∷ s) zero h = h.0
typed_list (ty ∷ tys) (v ∷ s) (suc x) h = typed_list tys s x h.1

pub typed_environment : (tys : List Ty) (s : List Val) → IsTyped tys s → HasTypes (types_in tys) (environment s)
typed_environment tys s h = record { typed = λ x. typed_list tys s x h }

default_has : (ty : Ty) → has ty (default ty) ≡ true
unfolding zeroʳ leqʳ ratio gcd gcd_steps
default_has Ty.Bool = refl
default_has Ty.Int = refl
default_has Ty.UInt = refl
default_has Ty.UReal = refl

fit_has : (ty : Ty) (v : Val) → has ty (fit ty v) ≡ true
fit_has ty v = go (has ty v) refl
  where
    go : (b : Bool) → has ty v ≡ b → has ty (cond b v (default ty)) ≡ true
    go true e = e
    go false e = default_has ty

pub put_typed : (types : Types) (s : Env) (x : ℕ) (ty : Ty) (v : Val) → HasTypes types s → HasTypes (retyped x ty types) (put x (fit ty v) s)
put_typed types s x ty v h = record { typed = λ y. go y (x == y) }
  where
    go : (y : ℕ) (b : Bool) → has (cond b ty (types y)) (cond b (fit ty v) (s y)) ≡ true
    go y true = fit_has ty v
    go y false = h.typed y

-- ---- The values of a type

abbrev pub infinite_ok : NumberType → Bool
infinite_ok NumberType.int = false
infinite_ok NumberType.uint = false
infinite_ok NumberType.ureal = false
infinite_ok NumberType.eureal = true

abbrev pub negative_ok : NumberType → Bool
negative_ok NumberType.int = true
negative_ok NumberType.uint = false
negative_ok NumberType.ureal = false
negative_ok NumberType.eureal = false

pub record Fits (t : NumberType) (v : Value) : Type 0 where
  pub finite : infinite_ok t ≡ false → is_finite v ≡ true
  pub nonnegative : negative_ok t ≡ false → zeroᵛ ≤ᵛ v

abbrev JoinAllows : NumberType → NumberType → Option NumberType → Type 0
JoinAllows a b None = Unit {0}
JoinAllows a b (Some t) = (infinite_ok t ≡ (infinite_ok a || infinite_ok b)) × (negative_ok t ≡ (negative_ok a || negative_ok b)) × ((infinite_ok a && negative_ok b) ≡ false) × ((infinite_ok b && negative_ok a) ≡ false)

join_allows : (a b : NumberType) → JoinAllows a b (join a b)
join_allows NumberType.int NumberType.int = (refl, refl, refl, refl)
join_allows NumberType.int NumberType.uint = (refl, refl, refl, refl)
join_allows NumberType.int NumberType.ureal = tt
join_allows NumberType.int NumberType.eureal = tt
join_allows NumberType.uint NumberType.int = (refl, refl, refl, refl)
join_allows NumberType.uint NumberType.uint = (refl, refl, refl, refl)
join_allows NumberType.uint NumberType.ureal = (refl, refl, refl, refl)
join_allows NumberType.uint NumberType.eureal = (refl, refl, refl, refl)
join_allows NumberType.ureal NumberType.int = tt
join_allows NumberType.ureal NumberType.uint = (refl, refl, refl, refl)
join_allows NumberType.ureal NumberType.ureal = (refl, refl, refl, refl)
join_allows NumberType.ureal NumberType.eureal = (refl, refl, refl, refl)
join_allows NumberType.eureal NumberType.int = tt
join_allows NumberType.eureal NumberType.uint = (refl, refl, refl, refl)
join_allows NumberType.eureal NumberType.ureal = (refl, refl, refl, refl)
join_allows NumberType.eureal NumberType.eureal = (refl, refl, refl, refl)

-- The types of two parts that have a join.
pub record Parts (p q : Option NumberType) (t : NumberType) : Type 0 where
  pub left : NumberType
  pub right : NumberType
  pub left_is : p ≡ Some left
  pub right_is : q ≡ Some right
  pub join_is : join left right ≡ Some t

pub parts : (p q : Option NumberType) (t : NumberType) → joined p q ≡ Some t → Parts p q t
parts (Some a) (Some b) t e = record { left = a; right = b; left_is = refl; right_is = refl; join_is = e }
parts (Some a) None t e = absurd (cc)
parts None q t e = absurd (cc)

pub allowed : (p q : Option NumberType) (t : NumberType) (h : Parts p q t) → JoinAllows h.left h.right (Some t)
allowed p q t h = subst (λ o. JoinAllows h.left h.right o) h.join_is (join_allows h.left h.right)

pub only : (b : Bool) (o : Option NumberType) (t : NumberType) → only_if b o ≡ Some t → (b ≡ true) × (o ≡ Some t)
only true o t e = (refl, e)
only false o t e = absurd (cc)

pub record Unsigned (o : Option NumberType) : Type 0 where
  pub type : NumberType
  pub is : o ≡ Some type
  pub unsigned : negative_ok type ≡ false

pub unsigned : (o : Option NumberType) → is_unsigned o ≡ true → Unsigned o
unsigned (Some NumberType.int) e = absurd (cc)
unsigned (Some NumberType.uint) e = record { type = NumberType.uint; is = refl; unsigned = refl }
unsigned (Some NumberType.ureal) e = record { type = NumberType.ureal; is = refl; unsigned = refl }
unsigned (Some NumberType.eureal) e = record { type = NumberType.eureal; is = refl; unsigned = refl }
unsigned None e = absurd (cc)

pub difference_joined : (o : Option NumberType) (t : NumberType) → difference_type o ≡ Some t → (j : NumberType) × ((o ≡ Some j) × (infinite_ok j ≡ false) × (t ≡ NumberType.int))
difference_joined (Some NumberType.int) t e = (NumberType.int, (refl, refl, let k : NumberType.int ≡ t = cc in sym k))
difference_joined (Some NumberType.uint) t e = (NumberType.uint, (refl, refl, let k : NumberType.int ≡ t = cc in sym k))
difference_joined (Some NumberType.ureal) t e = absurd (cc)
difference_joined (Some NumberType.eureal) t e = absurd (cc)
difference_joined None t e = absurd (cc)

pub scale_joined : (o : Option NumberType) (t : NumberType) → scale_type o ≡ Some t → (j : NumberType) × ((o ≡ Some j) × (infinite_ok t ≡ infinite_ok j) × (negative_ok j ≡ false))
scale_joined (Some NumberType.int) t e = absurd (cc)
scale_joined (Some NumberType.uint) t e = let k : NumberType.ureal ≡ t = cc in (NumberType.uint, (refl, ap infinite_ok (sym k), refl))
scale_joined (Some NumberType.ureal) t e = let k : NumberType.ureal ≡ t = cc in (NumberType.ureal, (refl, ap infinite_ok (sym k), refl))
scale_joined (Some NumberType.eureal) t e = let k : NumberType.eureal ≡ t = cc in (NumberType.eureal, (refl, ap infinite_ok (sym k), refl))
scale_joined None t e = absurd (cc)

-- ---- Operators

or_left : (a b : Bool) → (a || b) ≡ false → a ≡ false
or_left true b e = absurd (cc)
or_left false b e = refl

or_right : (a b : Bool) → (a || b) ≡ false → b ≡ false
or_right true b e = absurd (cc)
or_right false b e = e

binary : (op : Value → Value → Value) (p q : Option NumberType) (t : NumberType) (x y : Value) (h : Parts p q t) → Fits h.left x → Fits h.right y → (is_finite x ≡ true → is_finite y ≡ true → is_finite (op x y) ≡ true) → (zeroᵛ ≤ᵛ x → zeroᵛ ≤ᵛ y → zeroᵛ ≤ᵛ op x y) → Fits t (op x y)
binary op p q t x y h fx fy keeps above = let a = allowed p q t h in record {
  finite = λ e. let f = sym a.0 ∙ e in keeps (fx.finite (or_left _ _ f)) (fy.finite (or_right (infinite_ok h.left) _ f));
  nonnegative = λ e. let f = sym a.1 ∙ e in above (fx.nonnegative (or_left _ _ f)) (fy.nonnegative (or_right (negative_ok h.left) _ f));
}

sum_finite : (x y : Value) → is_finite x ≡ true → is_finite y ≡ true → is_finite (x +ᵛ y) ≡ true
unfolding ◌+ᵛ◌
sum_finite (finite x) (finite y) p q = refl
sum_finite (finite x) infinite p q = absurd (cc)
sum_finite infinite y p q = absurd (cc)

product_finite : (x y : Value) → is_finite x ≡ true → is_finite y ≡ true → is_finite (x *ᵛ y) ≡ true
unfolding ◌*ᵛ◌
product_finite (finite x) (finite y) p q = refl
product_finite (finite x) infinite p q = absurd (cc)
product_finite infinite y p q = absurd (cc)

difference_finite : (x y : Value) → is_finite x ≡ true → is_finite y ≡ true → is_finite (differenceᵛ x y) ≡ true
unfolding differenceᵛ
difference_finite (finite x) (finite y) p q = refl
difference_finite (finite x) infinite p q = absurd (cc)
difference_finite infinite y p q = absurd (cc)

either : (P : Value → Type 0) (b : Bool) (x y : Value) → P x → P y → P (cond b x y)
either P true x y p q = p
either P false x y p q = q

zero_is_finite : is_finite zeroᵛ ≡ true
unfolding zeroᵛ
zero_is_finite = refl

one_is_finite : is_finite oneᵛ ≡ true
unfolding oneᵛ
one_is_finite = refl

monus_finite : (x y : Value) → is_finite x ≡ true → is_finite y ≡ true → is_finite (monusᵛ x y) ≡ true
unfolding monusᵛ
monus_finite (finite x) (finite y) p q = either (λ v. is_finite v ≡ true) (leqʳ y x) (finite (x -ʳ y)) zeroᵛ refl zero_is_finite
monus_finite (finite x) infinite p q = zero_is_finite
monus_finite infinite y p q = absurd (cc)

monus_nonnegative : (x y : Value) → zeroᵛ ≤ᵛ x → zeroᵛ ≤ᵛ y → zeroᵛ ≤ᵛ monusᵛ x y
unfolding monusᵛ
monus_nonnegative (finite x) (finite y) p q = go (leqʳ y x) refl
  where
    go : (b : Bool) → leqʳ y x ≡ b → zeroᵛ ≤ᵛ cond b (finite (x -ʳ y)) zeroᵛ
    go true e = finite_nonnegative _ ((difference_nonnegative y x).1 (record { holds = e }))
    go false e = zero-≤ᵛ-zero
monus_nonnegative (finite x) infinite p q = zero-≤ᵛ-zero
monus_nonnegative infinite (finite y) p q = ≤ᵛ_infinite zeroᵛ
monus_nonnegative infinite infinite p q = zero-≤ᵛ-zero

min_finite : (x y : Value) → is_finite x ≡ true → is_finite y ≡ true → is_finite (minᵛ x y) ≡ true
unfolding minᵛ
min_finite x y p q = either (λ v. is_finite v ≡ true) (leqᵛ x y) x y p q

min_nonnegative : (x y : Value) → zeroᵛ ≤ᵛ x → zeroᵛ ≤ᵛ y → zeroᵛ ≤ᵛ minᵛ x y
unfolding minᵛ
min_nonnegative x y p q = either (λ v. zeroᵛ ≤ᵛ v) (leqᵛ x y) x y p q

max_finite : (x y : Value) → is_finite x ≡ true → is_finite y ≡ true → is_finite (maxᵛ x y) ≡ true
unfolding maxᵛ
max_finite x y p q = either (λ v. is_finite v ≡ true) (leqᵛ x y) y x q p

max_nonnegative : (x y : Value) → zeroᵛ ≤ᵛ x → zeroᵛ ≤ᵛ y → zeroᵛ ≤ᵛ maxᵛ x y
unfolding maxᵛ
max_nonnegative x y p q = either (λ v. zeroᵛ ≤ᵛ v) (leqᵛ x y) y x q p

imply_nonnegative : (x y : Value) → zeroᵛ ≤ᵛ y → zeroᵛ ≤ᵛ impliesᵛ x y
unfolding impliesᵛ
imply_nonnegative x y q = either (λ v. zeroᵛ ≤ᵛ v) (leqᵛ x y) infinite y (≤ᵛ_infinite zeroᵛ) q

co_imply_nonnegative : (x y : Value) → zeroᵛ ≤ᵛ y → zeroᵛ ≤ᵛ coimpliesᵛ x y
unfolding coimpliesᵛ
co_imply_nonnegative x y q = either (λ v. zeroᵛ ≤ᵛ v) (leqᵛ y x) zeroᵛ y zero-≤ᵛ-zero q

validate_nonnegative : (x : Value) → zeroᵛ ≤ᵛ validateᵛ x
unfolding validateᵛ
validate_nonnegative (finite x) = zero-≤ᵛ-zero
validate_nonnegative infinite = ≤ᵛ_infinite zeroᵛ

co_validate_nonnegative : (x : Value) → zeroᵛ ≤ᵛ covalidateᵛ x
unfolding covalidateᵛ
co_validate_nonnegative (finite x) = either (λ v. zeroᵛ ≤ᵛ v) (is_zeroʳ x) zeroᵛ infinite zero-≤ᵛ-zero (≤ᵛ_infinite zeroᵛ)
co_validate_nonnegative infinite = ≤ᵛ_infinite zeroᵛ

above : (t : NumberType) (v : Value) → t ≡ NumberType.eureal → zeroᵛ ≤ᵛ v → Fits t v
above t v e h = record { finite = λ f. absurd (let g : true ≡ false = sym (ap infinite_ok e) ∙ f in cc); nonnegative = λ f. h }

a_formula : (t : NumberType) → Some NumberType.eureal ≡ Some t → t ≡ NumberType.eureal
a_formula t e = let k : NumberType.eureal ≡ t = cc in sym k

number_fits : (x : Rational) (t : NumberType) → constant_type (finite x) ≡ Some t → Fits t (finite x)
number_fits x t e = go (leqʳ zeroʳ x) refl e
  where
    go : (b : Bool) → leqʳ zeroʳ x ≡ b → cond b (Some (cond (x.den == 1) NumberType.uint NumberType.ureal)) (only_if (x.den == 1) (Some NumberType.int)) ≡ Some t → Fits t (finite x)
    go true h e = record { finite = λ f. refl; nonnegative = λ f. finite_nonnegative x (record { holds = h }) }
    go false h e = let l : Some NumberType.int ≡ Some t = (only _ _ t e).1 in let k : NumberType.int ≡ t = cc in record { finite = λ f. refl; nonnegative = λ f. absurd (let g : true ≡ false = ap negative_ok k ∙ f in cc) }

variable_fits : (ty : Ty) (v : Val) (t : NumberType) → has ty v ≡ true → number_type ty ≡ Some t → Fits t (finite (number_of v))
variable_fits Ty.Bool v t h e = absurd (cc)
variable_fits Ty.Int v t h e = let k : NumberType.int ≡ t = cc in record { finite = λ f. refl; nonnegative = λ f. absurd (let g : true ≡ false = ap negative_ok k ∙ f in cc) }
variable_fits Ty.UInt (Truth b) t h e = absurd (cc)
variable_fits Ty.UInt (Num x) t h e = record { finite = λ f. refl; nonnegative = λ f. finite_nonnegative x (record { holds = and_right (x.den == 1) _ h }) }
  where
    and_right : (a b : Bool) → (a && b) ≡ true → b ≡ true
    and_right true b e = e
    and_right false b e = absurd (cc)
variable_fits Ty.UReal (Truth b) t h e = absurd (cc)
variable_fits Ty.UReal (Num x) t h e = record { finite = λ f. refl; nonnegative = λ f. finite_nonnegative x (record { holds = h }) }

-- ---- Forms

pub value_fits : (types : Types) (s : Env) → HasTypes types s → (f : Form) (t : NumberType) (c : Choices) → type_of types f ≡ Some t → Fits t (value f s c)
value_fits types s h (Form.number (finite x)) t c e = number_fits x t e
value_fits types s h (Form.number infinite) t c e = above t infinite (a_formula t e) (≤ᵛ_infinite zeroᵛ)
value_fits types s h (Form.variable x) t c e = variable_fits (types x) (s x) t (h.typed x) e
value_fits types s h (Form.sum a b) t c e = let p = parts _ _ t e in binary (λ x y. x +ᵛ y) _ _ t _ _ p (value_fits types s h a p.left (left c) p.left_is) (value_fits types s h b p.right (right c) p.right_is) (sum_finite _ _) (+ᵛ_nonnegative _ _)
value_fits types s h (Form.difference a b) t c e = let d = difference_joined _ t e in let p = parts _ _ d.0 d.1.0 in let al = allowed _ _ d.0 p in let f : (infinite_ok p.left || infinite_ok p.right) ≡ false = sym al.0 ∙ d.1.1 in record {
  finite = λ g. difference_finite _ _ ((value_fits types s h a p.left (left c) p.left_is).finite (or_left _ _ f)) ((value_fits types s h b p.right (right c) p.right_is).finite (or_right (infinite_ok p.left) _ f));
  nonnegative = λ g. absurd (let k : true ≡ false = sym (ap negative_ok d.1.2) ∙ g in cc);
}
value_fits types s h (Form.cut a b) t c e = let p = parts _ _ t (only _ _ t e).1 in binary monusᵛ _ _ t _ _ p (value_fits types s h a p.left (left c) p.left_is) (value_fits types s h b p.right (right c) p.right_is) (monus_finite _ _) (monus_nonnegative _ _)
value_fits types s h (Form.scale w a) t c e = let o = only (leqʳ zeroʳ w) _ t e in let d = scale_joined _ t o.1 in let v = value_fits types s h a d.0 c d.1.0 in record {
  finite = λ g. product_finite (finite w) _ refl (v.finite (sym d.1.1 ∙ g));
  nonnegative = λ g. scale_nonnegative w _ (record { holds = o.0 }) (v.nonnegative d.1.2);
}
value_fits types s h (Form.product a b span) t c e = let p = parts _ _ t e in binary (λ x y. x *ᵛ y) _ _ t _ _ p (value_fits types s h a p.left (left c) p.left_is) (value_fits types s h b p.right (right c) p.right_is) (product_finite _ _) (*ᵛ_nonnegative _ _)
value_fits types s h (Form.min a b) t c e = let p = parts _ _ t e in binary minᵛ _ _ t _ _ p (value_fits types s h a p.left (left c) p.left_is) (value_fits types s h b p.right (right c) p.right_is) (min_finite _ _) (min_nonnegative _ _)
value_fits types s h (Form.max a b) t c e = let p = parts _ _ t e in binary maxᵛ _ _ t _ _ p (value_fits types s h a p.left (left c) p.left_is) (value_fits types s h b p.right (right c) p.right_is) (max_finite _ _) (max_nonnegative _ _)
value_fits types s h (Form.imply a b) t c e = let o = only _ _ t e in let u = unsigned (type_of types b) (second (is_unsigned (type_of types a)) _ o.0) in above t _ (a_formula t o.1) (imply_nonnegative _ _ ((value_fits types s h b u.type (right c) u.is).nonnegative u.unsigned))
  where
    second : (a b : Bool) → (a && b) ≡ true → b ≡ true
    second true b e = e
    second false b e = absurd (cc)
value_fits types s h (Form.co_imply a b) t c e = let o = only _ _ t e in let u = unsigned (type_of types b) (second (is_unsigned (type_of types a)) _ o.0) in above t _ (a_formula t o.1) (co_imply_nonnegative _ _ ((value_fits types s h b u.type (right c) u.is).nonnegative u.unsigned))
  where
    second : (a b : Bool) → (a && b) ≡ true → b ≡ true
    second true b e = e
    second false b e = absurd (cc)
value_fits types s h (Form.validate a) t c e = above t _ (a_formula t (only _ _ t e).1) (validate_nonnegative _)
value_fits types s h (Form.co_validate a) t c e = above t _ (a_formula t (only _ _ t e).1) (co_validate_nonnegative _)
value_fits types s h (Form.embed g) t c e = above t _ (a_formula t (only _ _ t e).1) (either (λ v. zeroᵛ ≤ᵛ v) (holds g s c) infinite zeroᵛ (≤ᵛ_infinite zeroᵛ) zero-≤ᵛ-zero)
value_fits types s h (Form.iverson g) t c e = record { finite = λ f. either (λ v. is_finite v ≡ true) (holds g s c) oneᵛ zeroᵛ one_is_finite zero_is_finite; nonnegative = λ f. either (λ v. zeroᵛ ≤ᵛ v) (holds g s c) oneᵛ zeroᵛ zero-≤ᵛ-one zero-≤ᵛ-zero }
value_fits types s h (Form.select g a b) t c e = let p = parts _ _ t (only _ _ t e).1 in binary (λ x y. cond (holds g s (left c)) x y) _ _ t _ _ p (value_fits types s h a p.left (right c) p.left_is) (value_fits types s h b p.right (right c) p.right_is) (either (λ v. is_finite v ≡ true) _ _ _) (either (λ v. zeroᵛ ≤ᵛ v) _ _ _)
value_fits types s h (Form.bind up x name ty a) t c e = let o = only _ _ t e in let u = unsigned (type_of (retyped x ty types) a) o.0 in above t _ (a_formula t o.1) ((value_fits (retyped x ty types) _ (put_typed types s x ty (here c) h) a u.type (left c) u.is).nonnegative u.unsigned)
