-- For the proofs of other crates: well-typed conditions, forms of finite types and terms that fit a
-- variable have no binder; the join of two unsigned types is unsigned.
use Rattle.std.proofs.Common.{◌≡◌, refl, Bool, true, false, ◌&&◌}
use Rattle.std.specs.Prelude.{Option, Some, None}
use Rattle.heylo_formula.specs.Formula.{Form, Cond, Term}
use Rattle.heylo_formula.specs.Choices.{Choices}
use Rattle.heylo_formula.specs.Binders.{has_binder, has_binder_in, IsPlain}
use Rattle.heylo_formula.specs.Typing.{NumberType, Types, number_type, fits, joined, is_bool, is_finite_type, is_unsigned, only_if, difference_type, cut_type, scale_type, type_of, is_well_typed, TermFits}
use Rattle.heylo_formula.specs.declared.types.Ty.{Ty}
use Rattle.heylo_formula.proofs.Dependence.{neither}
use Rattle.heylo_formula.proofs.TypedValues.{finite_value}

pub joined_finite : (t u : Option NumberType) → is_finite_type (joined t u) ≡ true → (is_finite_type t ≡ true) × (is_finite_type u ≡ true)
joined_finite (Some NumberType.int) (Some NumberType.int) h = (refl, refl)
joined_finite (Some NumberType.int) (Some NumberType.uint) h = (refl, refl)
joined_finite (Some NumberType.int) (Some NumberType.ureal) h = absurd (cc)
joined_finite (Some NumberType.int) (Some NumberType.eureal) h = absurd (cc)
joined_finite (Some NumberType.int) None h = absurd (cc)
joined_finite (Some NumberType.uint) (Some NumberType.int) h = (refl, refl)
joined_finite (Some NumberType.uint) (Some NumberType.uint) h = (refl, refl)
joined_finite (Some NumberType.uint) (Some NumberType.ureal) h = (refl, refl)
joined_finite (Some NumberType.uint) (Some NumberType.eureal) h = absurd (cc)
joined_finite (Some NumberType.uint) None h = absurd (cc)
joined_finite (Some NumberType.ureal) (Some NumberType.int) h = absurd (cc)
joined_finite (Some NumberType.ureal) (Some NumberType.uint) h = (refl, refl)
joined_finite (Some NumberType.ureal) (Some NumberType.ureal) h = (refl, refl)
joined_finite (Some NumberType.ureal) (Some NumberType.eureal) h = absurd (cc)
joined_finite (Some NumberType.ureal) None h = absurd (cc)
joined_finite (Some NumberType.eureal) (Some NumberType.int) h = absurd (cc)
joined_finite (Some NumberType.eureal) (Some NumberType.uint) h = absurd (cc)
joined_finite (Some NumberType.eureal) (Some NumberType.ureal) h = absurd (cc)
joined_finite (Some NumberType.eureal) (Some NumberType.eureal) h = absurd (cc)
joined_finite (Some NumberType.eureal) None h = absurd (cc)
joined_finite None u h = absurd (cc)

pub joins : (t u : Option NumberType) → is_unsigned t ≡ true → is_unsigned u ≡ true → is_unsigned (joined t u) ≡ true
joins (Some NumberType.int) u h k = absurd (cc)
joins (Some NumberType.uint) (Some NumberType.int) h k = absurd (cc)
joins (Some NumberType.uint) (Some NumberType.uint) h k = refl
joins (Some NumberType.uint) (Some NumberType.ureal) h k = refl
joins (Some NumberType.uint) (Some NumberType.eureal) h k = refl
joins (Some NumberType.uint) None h k = absurd (cc)
joins (Some NumberType.ureal) (Some NumberType.int) h k = absurd (cc)
joins (Some NumberType.ureal) (Some NumberType.uint) h k = refl
joins (Some NumberType.ureal) (Some NumberType.ureal) h k = refl
joins (Some NumberType.ureal) (Some NumberType.eureal) h k = refl
joins (Some NumberType.ureal) None h k = absurd (cc)
joins (Some NumberType.eureal) (Some NumberType.int) h k = absurd (cc)
joins (Some NumberType.eureal) (Some NumberType.uint) h k = refl
joins (Some NumberType.eureal) (Some NumberType.ureal) h k = refl
joins (Some NumberType.eureal) (Some NumberType.eureal) h k = refl
joins (Some NumberType.eureal) None h k = absurd (cc)
joins None u h k = absurd (cc)

only_finite : (b : Bool) (t : Option NumberType) → is_finite_type (only_if b t) ≡ true → (b ≡ true) × (is_finite_type t ≡ true)
only_finite true t h = (refl, h)
only_finite false t h = absurd (cc)

pub endless : (b : Bool) → {A : Type 0} → is_finite_type (only_if b (Some NumberType.eureal)) ≡ true → A
endless true h = absurd (cc)
endless false h = absurd (cc)

pub and_both : (a b : Bool) → (a && b) ≡ true → (a ≡ true) × (b ≡ true)
and_both true b h = (refl, h)
and_both false b h = absurd (cc)

pub cut_finite : (t : Option NumberType) → is_finite_type (cut_type t) ≡ true → is_finite_type t ≡ true
cut_finite t h = (only_finite (is_unsigned t && is_finite_type t) t h).1

difference_finite : (t : Option NumberType) → is_finite_type (difference_type t) ≡ true → is_finite_type t ≡ true
difference_finite (Some NumberType.int) h = refl
difference_finite (Some NumberType.uint) h = refl
difference_finite (Some NumberType.ureal) h = absurd (cc)
difference_finite (Some NumberType.eureal) h = absurd (cc)
difference_finite None h = absurd (cc)

scale_finite : (t : Option NumberType) → is_finite_type (scale_type t) ≡ true → is_finite_type t ≡ true
scale_finite (Some NumberType.int) h = absurd (cc)
scale_finite (Some NumberType.uint) h = refl
scale_finite (Some NumberType.ureal) h = refl
scale_finite (Some NumberType.eureal) h = absurd (cc)
scale_finite None h = absurd (cc)

mutual
  pub finite_plain : (types : Types) (f : Form) → is_finite_type (type_of types f) ≡ true → has_binder f ≡ false
  finite_plain types (Form.number v) h = refl
  finite_plain types (Form.variable x) h = refl
  finite_plain types (Form.sum a b) h = let p = joined_finite (type_of types a) (type_of types b) h in neither (finite_plain types a p.0) (finite_plain types b p.1)
  finite_plain types (Form.product a b span) h = let p = joined_finite (type_of types a) (type_of types b) h in neither (finite_plain types a p.0) (finite_plain types b p.1)
  finite_plain types (Form.min a b) h = let p = joined_finite (type_of types a) (type_of types b) h in neither (finite_plain types a p.0) (finite_plain types b p.1)
  finite_plain types (Form.max a b) h = let p = joined_finite (type_of types a) (type_of types b) h in neither (finite_plain types a p.0) (finite_plain types b p.1)
  finite_plain types (Form.difference a b) h = let p = joined_finite (type_of types a) (type_of types b) (difference_finite _ h) in neither (finite_plain types a p.0) (finite_plain types b p.1)
  finite_plain types (Form.cut a b) h = let p = joined_finite (type_of types a) (type_of types b) (cut_finite _ h) in neither (finite_plain types a p.0) (finite_plain types b p.1)
  finite_plain types (Form.scale w a) h = finite_plain types a (scale_finite _ (only_finite _ _ h).1)
  finite_plain types (Form.imply a b) h = endless _ h
  finite_plain types (Form.co_imply a b) h = endless _ h
  finite_plain types (Form.validate a) h = endless _ h
  finite_plain types (Form.co_validate a) h = endless _ h
  finite_plain types (Form.embed g) h = endless _ h
  finite_plain types (Form.bind up x name ty a) h = endless _ h
  finite_plain types (Form.iverson g) h = typed_plain types g (only_finite (is_well_typed types g) _ h).0
  finite_plain types (Form.select g a b) h = let q = only_finite (is_well_typed types g) _ h in let p = joined_finite (type_of types a) (type_of types b) q.1 in neither (typed_plain types g q.0) (neither (finite_plain types a p.0) (finite_plain types b p.1))

  pub typed_plain : (types : Types) (g : Cond) → is_well_typed types g ≡ true → has_binder_in g ≡ false
  typed_plain types (Cond.constant b) h = refl
  typed_plain types (Cond.flag x) h = refl
  typed_plain types (Cond.not g) h = typed_plain types g h
  typed_plain types (Cond.and g k) h = let p = and_both (is_well_typed types g) (is_well_typed types k) h in neither (typed_plain types g p.0) (typed_plain types k p.1)
  typed_plain types (Cond.or g k) h = let p = and_both (is_well_typed types g) (is_well_typed types k) h in neither (typed_plain types g p.0) (typed_plain types k p.1)
  typed_plain types (Cond.same g k) h = let p = and_both (is_well_typed types g) (is_well_typed types k) h in neither (typed_plain types g p.0) (typed_plain types k p.1)
  typed_plain types (Cond.le a b) h = let p = joined_finite (type_of types a) (type_of types b) h in neither (finite_plain types a p.0) (finite_plain types b p.1)
  typed_plain types (Cond.lt a b) h = let p = joined_finite (type_of types a) (type_of types b) h in neither (finite_plain types a p.0) (finite_plain types b p.1)
  typed_plain types (Cond.equal a b) h = let p = joined_finite (type_of types a) (type_of types b) h in neither (finite_plain types a p.0) (finite_plain types b p.1)
  typed_plain types (Cond.ite g k j) h = let p = and_both (is_well_typed types g) (is_well_typed types k && is_well_typed types j) h in let q = and_both (is_well_typed types k) (is_well_typed types j) p.1 in neither (typed_plain types g p.0) (neither (typed_plain types k q.0) (typed_plain types j q.1))

narrow_finite : (ty : Ty) (t : Option NumberType) → is_bool ty ≡ false → fits t (number_type ty) ≡ true → is_finite_type t ≡ true
narrow_finite Ty.Bool t b h = absurd (cc)
narrow_finite Ty.Int (Some NumberType.int) b h = refl
narrow_finite Ty.Int (Some NumberType.uint) b h = refl
narrow_finite Ty.Int (Some NumberType.ureal) b h = absurd (cc)
narrow_finite Ty.Int (Some NumberType.eureal) b h = absurd (cc)
narrow_finite Ty.Int None b h = absurd (cc)
narrow_finite Ty.UInt (Some NumberType.int) b h = absurd (cc)
narrow_finite Ty.UInt (Some NumberType.uint) b h = refl
narrow_finite Ty.UInt (Some NumberType.ureal) b h = absurd (cc)
narrow_finite Ty.UInt (Some NumberType.eureal) b h = absurd (cc)
narrow_finite Ty.UInt None b h = absurd (cc)
narrow_finite Ty.UReal (Some NumberType.int) b h = absurd (cc)
narrow_finite Ty.UReal (Some NumberType.uint) b h = refl
narrow_finite Ty.UReal (Some NumberType.ureal) b h = refl
narrow_finite Ty.UReal (Some NumberType.eureal) b h = absurd (cc)
narrow_finite Ty.UReal None b h = absurd (cc)

pub term_plain : (types : Types) (ty : Ty) (t : Term) → TermFits types ty t → IsPlain t
term_plain types ty (Term.truth g) h = typed_plain types g h.1
term_plain types ty (Term.number f) h = let k = narrow_finite ty (type_of types f) h.0 h.1 in (finite_plain types f k, λ s. finite_value types f s Choices.stop k)
