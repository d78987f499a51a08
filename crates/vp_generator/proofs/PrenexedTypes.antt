-- The prenexed form of a formula is a formula.
use Rattle.std.proofs.Common.{◌≡◌, ℕ, ◌+◌, refl, sym, ap, ap₂, ◌∙◌, subst, arith, Bool, true, false, cond, ◌==◌, ◌||◌, ◌&&◌, List, [], ◌∷◌, ◌++◌}
use Rattle.std.specs.Prelude.{Option, Some, None}
use Rattle.std.proofs.Math.ListN.{length}
use Prim.Native.Nat.{suc}
use mathlib.Core.Path.{fun_ext}
use Rattle.heyvl_num.specs.Rational.{zeroʳ, leqʳ}
use Rattle.heylo_formula.specs.Formula.{Form, Cond}
use Rattle.heylo_formula.specs.Binders.{has_binder, has_binder_in}
use Rattle.heylo_formula.specs.Typing.{NumberType, Types, type_of, joined, is_unsigned, is_finite_type, only_if, scale_type, cut_type, difference_type, is_well_typed, retyped, IsFormula}
use Rattle.heylo_formula.specs.declared.types.Ty.{Ty}
use Rattle.heylo_formula.proofs.exported.Agreement.{or_false}
use Rattle.vp_generator.proofs.TypedParts.{joined_parts, only_parts, only_part, scaled_part}
use Rattle.vp_generator.specs.PrenexLaws.{TypesFrom}
use Rattle.heylo_formula.specs.BinderNames.{Binder, binders, binders_in}
use Rattle.vp_generator.specs.PrenexedForms.{Numbering, renumbered, unbound, unbound_in}
use Rattle.heylo_formula.proofs.exported.Plain.{joins, finite_plain, typed_plain}
use Rattle.vp_generator.proofs.GeneratedTypes.{only, both, scaled}

split : (us vs : List Binder) (n : ℕ) (types : Types) → TypesFrom n (us ++ vs) types → TypesFrom n us types × TypesFrom (n + length us) vs types
split [] vs n types h = (tt, subst (λ k. TypesFrom k vs types) (omega arith) h)
split (u ∷ us) vs n types h = let k = split us vs (suc n) types h.1 in ((h.0, k.0), subst (λ m. TypesFrom m vs types) (omega arith) k.1)

-- The types of the prenexed form are those of the renumbered variables.
mutual
  moved_type : (f : Form) (m : Numbering) (n : ℕ) (types : Types) → has_binder f ≡ false → type_of types (unbound m n f) ≡ type_of (λ y. types (m y)) f
  moved_type (Form.number v) m n types h = refl
  moved_type (Form.variable x) m n types h = refl
  moved_type (Form.sum a b) m n types h = let k = or_false (has_binder a) (has_binder b) h in ap₂ (λ t u. joined t u) (moved_type a m n types k.0) (moved_type b m (n + length (binders a)) types k.1)
  moved_type (Form.product a b span) m n types h = let k = or_false (has_binder a) (has_binder b) h in ap₂ (λ t u. joined t u) (moved_type a m n types k.0) (moved_type b m (n + length (binders a)) types k.1)
  moved_type (Form.min a b) m n types h = let k = or_false (has_binder a) (has_binder b) h in ap₂ (λ t u. joined t u) (moved_type a m n types k.0) (moved_type b m (n + length (binders a)) types k.1)
  moved_type (Form.max a b) m n types h = let k = or_false (has_binder a) (has_binder b) h in ap₂ (λ t u. joined t u) (moved_type a m n types k.0) (moved_type b m (n + length (binders a)) types k.1)
  moved_type (Form.difference a b) m n types h = let k = or_false (has_binder a) (has_binder b) h in ap₂ (λ t u. difference_type (joined t u)) (moved_type a m n types k.0) (moved_type b m (n + length (binders a)) types k.1)
  moved_type (Form.cut a b) m n types h = let k = or_false (has_binder a) (has_binder b) h in ap₂ (λ t u. cut_type (joined t u)) (moved_type a m n types k.0) (moved_type b m (n + length (binders a)) types k.1)
  moved_type (Form.scale w a) m n types h = ap (λ t. only_if (leqʳ zeroʳ w) (scale_type t)) (moved_type a m n types h)
  moved_type (Form.imply a b) m n types h = let k = or_false (has_binder a) (has_binder b) h in ap₂ (λ t u. only_if (is_unsigned t && is_unsigned u) (Some NumberType.eureal)) (moved_type a m n types k.0) (moved_type b m (n + length (binders a)) types k.1)
  moved_type (Form.co_imply a b) m n types h = let k = or_false (has_binder a) (has_binder b) h in ap₂ (λ t u. only_if (is_unsigned t && is_unsigned u) (Some NumberType.eureal)) (moved_type a m n types k.0) (moved_type b m (n + length (binders a)) types k.1)
  moved_type (Form.validate a) m n types h = ap (λ t. only_if (is_unsigned t) (Some NumberType.eureal)) (moved_type a m n types h)
  moved_type (Form.co_validate a) m n types h = ap (λ t. only_if (is_unsigned t) (Some NumberType.eureal)) (moved_type a m n types h)
  moved_type (Form.embed g) m n types h = ap (λ b. only_if b (Some NumberType.eureal)) (moved_truth g m n types h)
  moved_type (Form.iverson g) m n types h = ap (λ b. only_if b (Some NumberType.uint)) (moved_truth g m n types h)
  moved_type (Form.select g a b) m n types h = let k = or_false (has_binder_in g) (has_binder a || has_binder b) h in let l = or_false (has_binder a) (has_binder b) k.1 in ap₂ (λ b t. only_if b t) (moved_truth g m n types k.0) (ap₂ (λ t u. joined t u) (moved_type a m (n + length (binders_in g)) types l.0) (moved_type b m (n + length (binders_in g) + length (binders a)) types l.1))
  moved_type (Form.bind up x name ty a) m n types h = absurd (cc)

  moved_truth : (g : Cond) (m : Numbering) (n : ℕ) (types : Types) → has_binder_in g ≡ false → is_well_typed types (unbound_in m n g) ≡ is_well_typed (λ y. types (m y)) g
  moved_truth (Cond.constant b) m n types h = refl
  moved_truth (Cond.flag x) m n types h = refl
  moved_truth (Cond.not g) m n types h = moved_truth g m n types h
  moved_truth (Cond.and g h) m n types i = let k = or_false (has_binder_in g) (has_binder_in h) i in ap₂ (λ p q. p && q) (moved_truth g m n types k.0) (moved_truth h m (n + length (binders_in g)) types k.1)
  moved_truth (Cond.or g h) m n types i = let k = or_false (has_binder_in g) (has_binder_in h) i in ap₂ (λ p q. p && q) (moved_truth g m n types k.0) (moved_truth h m (n + length (binders_in g)) types k.1)
  moved_truth (Cond.same g h) m n types i = let k = or_false (has_binder_in g) (has_binder_in h) i in ap₂ (λ p q. p && q) (moved_truth g m n types k.0) (moved_truth h m (n + length (binders_in g)) types k.1)
  moved_truth (Cond.le a b) m n types h = let k = or_false (has_binder a) (has_binder b) h in ap₂ (λ t u. is_finite_type (joined t u)) (moved_type a m n types k.0) (moved_type b m (n + length (binders a)) types k.1)
  moved_truth (Cond.lt a b) m n types h = let k = or_false (has_binder a) (has_binder b) h in ap₂ (λ t u. is_finite_type (joined t u)) (moved_type a m n types k.0) (moved_type b m (n + length (binders a)) types k.1)
  moved_truth (Cond.equal a b) m n types h = let k = or_false (has_binder a) (has_binder b) h in ap₂ (λ t u. is_finite_type (joined t u)) (moved_type a m n types k.0) (moved_type b m (n + length (binders a)) types k.1)
  moved_truth (Cond.ite g h j) m n types i = let k = or_false (has_binder_in g) (has_binder_in h || has_binder_in j) i in let l = or_false (has_binder_in h) (has_binder_in j) k.1 in ap₂ (λ p q. p && q) (moved_truth g m n types k.0) (ap₂ (λ p q. p && q) (moved_truth h m (n + length (binders_in g)) types l.0) (moved_truth j m (n + length (binders_in g) + length (binders_in h)) types l.1))

signed : (t : Option NumberType) → is_unsigned (difference_type t) ≡ true → ⊥
signed (Some NumberType.int) h = absurd (cc)
signed (Some NumberType.uint) h = absurd (cc)
signed (Some NumberType.ureal) h = absurd (cc)
signed (Some NumberType.eureal) h = absurd (cc)
signed None h = absurd (cc)

cut_is_finite : (t : Option NumberType) → is_unsigned (cut_type t) ≡ true → is_finite_type (cut_type t) ≡ true
cut_is_finite (Some NumberType.int) h = absurd (cc)
cut_is_finite (Some NumberType.uint) h = refl
cut_is_finite (Some NumberType.ureal) h = refl
cut_is_finite (Some NumberType.eureal) h = absurd (cc)
cut_is_finite None h = absurd (cc)

renumbered_types : (x n : ℕ) (ty : Ty) (m : Numbering) (types : Types) → types n ≡ ty → retyped x ty (λ y. types (m y)) ≡ (λ y. types (renumbered x n m y))
renumbered_types x n ty m types e = fun_ext (λ y. go y (x == y))
  where
    go : (y : ℕ) (b : Bool) → cond b ty (types (m y)) ≡ types (cond b n (m y))
    go y true = sym e
    go y false = refl

pub unbound_formula : (f : Form) (m : Numbering) (n : ℕ) (types : Types) → TypesFrom n (binders f) types → IsFormula (λ y. types (m y)) f → IsFormula types (unbound m n f)
unbound_formula (Form.number v) m n types t h = h
unbound_formula (Form.variable x) m n types t h = h
unbound_formula (Form.sum a b) m n types t h = let p = joined_parts (type_of (λ y. types (m y)) a) (type_of (λ y. types (m y)) b) h in let k = split (binders a) (binders b) n types t in joins _ _ (unbound_formula a m n types k.0 p.0) (unbound_formula b m (n + length (binders a)) types k.1 p.1)
unbound_formula (Form.product a b span) m n types t h = let p = joined_parts (type_of (λ y. types (m y)) a) (type_of (λ y. types (m y)) b) h in let k = split (binders a) (binders b) n types t in joins _ _ (unbound_formula a m n types k.0 p.0) (unbound_formula b m (n + length (binders a)) types k.1 p.1)
unbound_formula (Form.min a b) m n types t h = let p = joined_parts (type_of (λ y. types (m y)) a) (type_of (λ y. types (m y)) b) h in let k = split (binders a) (binders b) n types t in joins _ _ (unbound_formula a m n types k.0 p.0) (unbound_formula b m (n + length (binders a)) types k.1 p.1)
unbound_formula (Form.max a b) m n types t h = let p = joined_parts (type_of (λ y. types (m y)) a) (type_of (λ y. types (m y)) b) h in let k = split (binders a) (binders b) n types t in joins _ _ (unbound_formula a m n types k.0 p.0) (unbound_formula b m (n + length (binders a)) types k.1 p.1)
unbound_formula (Form.difference a b) m n types t h = absurd (signed _ h)
unbound_formula (Form.cut a b) m n types t h = subst (λ u. is_unsigned u ≡ true) (sym (moved_type (Form.cut a b) m n types (finite_plain (λ y. types (m y)) (Form.cut a b) (cut_is_finite _ h)))) h
unbound_formula (Form.scale w a) m n types t h = let p = scaled_part (leqʳ zeroʳ w) (type_of (λ y. types (m y)) a) h in only _ _ p.0 (scaled _ (unbound_formula a m n types t p.1))
unbound_formula (Form.imply a b) m n types t h = let p = only_parts (is_unsigned (type_of (λ y. types (m y)) a)) (is_unsigned (type_of (λ y. types (m y)) b)) (Some NumberType.eureal) h in let k = split (binders a) (binders b) n types t in only _ _ (both _ _ (unbound_formula a m n types k.0 p.0) (unbound_formula b m (n + length (binders a)) types k.1 p.1)) refl
unbound_formula (Form.co_imply a b) m n types t h = let p = only_parts (is_unsigned (type_of (λ y. types (m y)) a)) (is_unsigned (type_of (λ y. types (m y)) b)) (Some NumberType.eureal) h in let k = split (binders a) (binders b) n types t in only _ _ (both _ _ (unbound_formula a m n types k.0 p.0) (unbound_formula b m (n + length (binders a)) types k.1 p.1)) refl
unbound_formula (Form.validate a) m n types t h = let p = only_part (is_unsigned (type_of (λ y. types (m y)) a)) (Some NumberType.eureal) h in only _ _ (unbound_formula a m n types t p.0) refl
unbound_formula (Form.co_validate a) m n types t h = let p = only_part (is_unsigned (type_of (λ y. types (m y)) a)) (Some NumberType.eureal) h in only _ _ (unbound_formula a m n types t p.0) refl
unbound_formula (Form.embed g) m n types t h = let p = only_part (is_well_typed (λ y. types (m y)) g) (Some NumberType.eureal) h in only _ _ (moved_truth g m n types (typed_plain (λ y. types (m y)) g p.0) ∙ p.0) refl
unbound_formula (Form.iverson g) m n types t h = let p = only_part (is_well_typed (λ y. types (m y)) g) (Some NumberType.uint) h in only _ _ (moved_truth g m n types (typed_plain (λ y. types (m y)) g p.0) ∙ p.0) refl
unbound_formula (Form.select g a b) m n types t h =
    let q = only_part (is_well_typed (λ y. types (m y)) g) _ h in
    let p = joined_parts (type_of (λ y. types (m y)) a) (type_of (λ y. types (m y)) b) q.1 in
    let k = split (binders_in g) (binders a ++ binders b) n types t in
    let l = split (binders a) (binders b) (n + length (binders_in g)) types k.1 in
    only _ _ (moved_truth g m n types (typed_plain (λ y. types (m y)) g q.0) ∙ q.0) (joins _ _ (unbound_formula a m (n + length (binders_in g)) types l.0 p.0) (unbound_formula b m (n + length (binders_in g) + length (binders a)) types l.1 p.1))
unbound_formula (Form.bind up x name ty a) m n types t h =
    let p = only_part (is_unsigned (type_of (retyped x ty (λ y. types (m y))) a)) (Some NumberType.eureal) h in
    unbound_formula a (renumbered x n m) (suc n) types t.1 (subst (λ u. is_unsigned (type_of u a) ≡ true) (renumbered_types x n ty m types t.0) p.0)
