-- A substitution of a term without binders keeps the binders of a form, and the operators above
-- them.
use Rattle.std.proofs.Common.{◌≡◌, ℕ, refl, ap, ap₂, ◌∙◌, Bool, true, false, not, cond, ◌==◌, ◌&&◌, ◌||◌}
use Prim.Native.Nat.{zero, suc}
use Rattle.heylo_formula.specs.Operators.{agree}
use Rattle.heylo_formula.specs.Formula.{Form, Cond, Term}
use Rattle.heylo_formula.specs.Variables.{is_free, occurs_in_term}
use Rattle.heylo_formula.specs.Sizes.{nodes}
use Rattle.heylo_formula.specs.Binders.{has_binder, has_binder_in, IsPlain}
use Rattle.heylo_formula.specs.Extrema.{is_directed, is_weight, is_number}
use Rattle.heylo_formula.specs.Substitution as Replaced
use Rattle.heylo_formula.specs.Substitution.{renamed, renamed_in, fresh, as_form, as_cond, subst_within, subst_within_in}
use Rattle.heylo_formula.specs.declared.types.Ty.{Ty}

-- ---- Renaming

leaf_binder : (b : Bool) (z w : ℕ) → has_binder (cond b (Form.variable z) (Form.variable w)) ≡ false
leaf_binder true z w = refl
leaf_binder false z w = refl

flag_binder : (b : Bool) (z w : ℕ) → has_binder_in (cond b (Cond.flag z) (Cond.flag w)) ≡ false
flag_binder true z w = refl
flag_binder false z w = refl

leaf_directed : (b up : Bool) (z w : ℕ) → is_directed up (cond b (Form.variable z) (Form.variable w)) ≡ true
leaf_directed true up z w = refl
leaf_directed false up z w = refl

directed_body : (b up : Bool) (a a' : Form) → is_directed up a' ≡ is_directed up a → is_directed up (cond b a a') ≡ is_directed up a
directed_body true up a a' e = refl
directed_body false up a a' e = e

mutual
  pub renamed_binder : (y z : ℕ) (f : Form) → has_binder (renamed y z f) ≡ has_binder f
  renamed_binder y z (Form.number v) = refl
  renamed_binder y z (Form.variable w) = leaf_binder (y == w) z w
  renamed_binder y z (Form.sum a b) = ap₂ (λ p q. p || q) (renamed_binder y z a) (renamed_binder y z b)
  renamed_binder y z (Form.difference a b) = ap₂ (λ p q. p || q) (renamed_binder y z a) (renamed_binder y z b)
  renamed_binder y z (Form.cut a b) = ap₂ (λ p q. p || q) (renamed_binder y z a) (renamed_binder y z b)
  renamed_binder y z (Form.product a b span) = ap₂ (λ p q. p || q) (renamed_binder y z a) (renamed_binder y z b)
  renamed_binder y z (Form.min a b) = ap₂ (λ p q. p || q) (renamed_binder y z a) (renamed_binder y z b)
  renamed_binder y z (Form.max a b) = ap₂ (λ p q. p || q) (renamed_binder y z a) (renamed_binder y z b)
  renamed_binder y z (Form.imply a b) = ap₂ (λ p q. p || q) (renamed_binder y z a) (renamed_binder y z b)
  renamed_binder y z (Form.co_imply a b) = ap₂ (λ p q. p || q) (renamed_binder y z a) (renamed_binder y z b)
  renamed_binder y z (Form.scale w a) = renamed_binder y z a
  renamed_binder y z (Form.validate a) = renamed_binder y z a
  renamed_binder y z (Form.co_validate a) = renamed_binder y z a
  renamed_binder y z (Form.embed g) = renamed_binder_in y z g
  renamed_binder y z (Form.iverson g) = renamed_binder_in y z g
  renamed_binder y z (Form.select g a b) = ap₂ (λ p q. p || q) (renamed_binder_in y z g) (ap₂ (λ p q. p || q) (renamed_binder y z a) (renamed_binder y z b))
  renamed_binder y z (Form.bind up w name ty a) = refl

  pub renamed_binder_in : (y z : ℕ) (g : Cond) → has_binder_in (renamed_in y z g) ≡ has_binder_in g
  renamed_binder_in y z (Cond.constant b) = refl
  renamed_binder_in y z (Cond.flag w) = flag_binder (y == w) z w
  renamed_binder_in y z (Cond.not g) = renamed_binder_in y z g
  renamed_binder_in y z (Cond.and g h) = ap₂ (λ p q. p || q) (renamed_binder_in y z g) (renamed_binder_in y z h)
  renamed_binder_in y z (Cond.or g h) = ap₂ (λ p q. p || q) (renamed_binder_in y z g) (renamed_binder_in y z h)
  renamed_binder_in y z (Cond.same g h) = ap₂ (λ p q. p || q) (renamed_binder_in y z g) (renamed_binder_in y z h)
  renamed_binder_in y z (Cond.le a b) = ap₂ (λ p q. p || q) (renamed_binder y z a) (renamed_binder y z b)
  renamed_binder_in y z (Cond.lt a b) = ap₂ (λ p q. p || q) (renamed_binder y z a) (renamed_binder y z b)
  renamed_binder_in y z (Cond.equal a b) = ap₂ (λ p q. p || q) (renamed_binder y z a) (renamed_binder y z b)
  renamed_binder_in y z (Cond.ite g h k) = ap₂ (λ p q. p || q) (renamed_binder_in y z g) (ap₂ (λ p q. p || q) (renamed_binder_in y z h) (renamed_binder_in y z k))

-- A weight stays a weight.
leaf_number : (b : Bool) (z w : ℕ) → is_number (cond b (Form.variable z) (Form.variable w)) ≡ false
leaf_number true z w = refl
leaf_number false z w = refl

leaf_weight : (b : Bool) (z w : ℕ) → is_weight (cond b (Form.variable z) (Form.variable w)) ≡ false
leaf_weight true z w = refl
leaf_weight false z w = refl

bind_number : (b : Bool) (up : Bool) (x name : ℕ) (ty : Ty) (a a' : Form) → is_number (Form.bind up x name ty (cond b a a')) ≡ false
bind_number b up x name ty a a' = refl

renamed_number : (y z : ℕ) (f : Form) → is_number (renamed y z f) ≡ is_number f
renamed_number y z (Form.number v) = refl
renamed_number y z (Form.variable w) = leaf_number (y == w) z w
renamed_number y z (Form.sum a b) = refl
renamed_number y z (Form.difference a b) = refl
renamed_number y z (Form.cut a b) = refl
renamed_number y z (Form.scale w a) = refl
renamed_number y z (Form.product a b span) = refl
renamed_number y z (Form.min a b) = refl
renamed_number y z (Form.max a b) = refl
renamed_number y z (Form.imply a b) = refl
renamed_number y z (Form.co_imply a b) = refl
renamed_number y z (Form.validate a) = refl
renamed_number y z (Form.co_validate a) = refl
renamed_number y z (Form.embed g) = refl
renamed_number y z (Form.iverson g) = refl
renamed_number y z (Form.select g a b) = refl
renamed_number y z (Form.bind up x name ty a) = refl

renamed_weight : (y z : ℕ) (f : Form) → is_weight (renamed y z f) ≡ is_weight f
renamed_weight y z (Form.number v) = refl
renamed_weight y z (Form.variable w) = leaf_weight (y == w) z w
renamed_weight y z (Form.sum a b) = refl
renamed_weight y z (Form.difference a b) = refl
renamed_weight y z (Form.cut a b) = ap₂ (λ p q. p && not q) (renamed_number y z a) (renamed_binder y z b)
renamed_weight y z (Form.scale w a) = refl
renamed_weight y z (Form.product a b span) = refl
renamed_weight y z (Form.min a b) = ap₂ (λ p q. not p && q) (renamed_binder y z a) (renamed_number y z b)
renamed_weight y z (Form.max a b) = refl
renamed_weight y z (Form.imply a b) = refl
renamed_weight y z (Form.co_imply a b) = refl
renamed_weight y z (Form.validate a) = refl
renamed_weight y z (Form.co_validate a) = refl
renamed_weight y z (Form.embed g) = refl
renamed_weight y z (Form.iverson g) = refl
renamed_weight y z (Form.select g a b) = refl
renamed_weight y z (Form.bind up x name ty a) = refl

pub renamed_directed : (up : Bool) (y z : ℕ) (f : Form) → is_directed up (renamed y z f) ≡ is_directed up f
renamed_directed up y z (Form.number c) = refl
renamed_directed up y z (Form.variable w) = leaf_directed (y == w) up z w
renamed_directed up y z (Form.sum a b) = ap₂ (λ p q. p && q) (renamed_directed up y z a) (renamed_directed up y z b)
renamed_directed up y z (Form.min a b) = ap₂ (λ p q. p && q) (renamed_directed up y z a) (renamed_directed up y z b)
renamed_directed up y z (Form.max a b) = ap₂ (λ p q. p && q) (renamed_directed up y z a) (renamed_directed up y z b)
renamed_directed up y z (Form.difference a b) = ap₂ (λ p q. not (p || q)) (renamed_binder y z a) (renamed_binder y z b)
renamed_directed up y z (Form.cut a b) = ap₂ (λ p q. not (p || q)) (renamed_binder y z a) (renamed_binder y z b)
renamed_directed up y z (Form.product a b span) = ap₂ (λ p q. p || q) (ap₂ (λ p q. not (p || q)) (renamed_binder y z a) (renamed_binder y z b)) (ap₂ (λ p q. p && q) (renamed_weight y z a) (renamed_directed up y z b))
renamed_directed up y z (Form.scale w a) = renamed_directed up y z a
renamed_directed true y z (Form.imply a b) = ap₂ (λ p q. not p && not q) (renamed_binder y z a) (renamed_binder y z b)
renamed_directed false y z (Form.imply a b) = ap₂ (λ p q. not p && q) (renamed_binder y z a) (renamed_directed false y z b)
renamed_directed true y z (Form.co_imply a b) = ap₂ (λ p q. not p && q) (renamed_binder y z a) (renamed_directed true y z b)
renamed_directed false y z (Form.co_imply a b) = ap₂ (λ p q. not p && not q) (renamed_binder y z a) (renamed_binder y z b)
renamed_directed true y z (Form.validate a) = ap not (renamed_binder y z a)
renamed_directed false y z (Form.validate a) = renamed_directed false y z a
renamed_directed true y z (Form.co_validate a) = renamed_directed true y z a
renamed_directed false y z (Form.co_validate a) = ap not (renamed_binder y z a)
renamed_directed up y z (Form.embed g) = ap not (renamed_binder_in y z g)
renamed_directed up y z (Form.iverson g) = ap not (renamed_binder_in y z g)
renamed_directed up y z (Form.select g a b) = ap₂ (λ p q. not p && q) (renamed_binder_in y z g) (ap₂ (λ p q. p && q) (renamed_directed up y z a) (renamed_directed up y z b))
renamed_directed up y z (Form.bind d w name ty a) = ap (λ p. agree up d && p) (directed_body (y == w) up a (renamed y z a) (renamed_directed up y z a))

-- ---- Substitution

plain_form : (t : Term) → IsPlain t → has_binder (as_form t) ≡ false
plain_form (Term.truth g) p = refl
plain_form (Term.number f) p = p.0

plain_cond : (t : Term) → IsPlain t → has_binder_in (as_cond t) ≡ false
plain_cond (Term.truth g) p = p
plain_cond (Term.number f) p = refl

put_leaf : (b : Bool) (w : ℕ) (t : Term) → IsPlain t → has_binder (cond b (as_form t) (Form.variable w)) ≡ false
put_leaf true w t p = plain_form t p
put_leaf false w t p = refl

put_flag : (b : Bool) (w : ℕ) (t : Term) → IsPlain t → has_binder_in (cond b (as_cond t) (Cond.flag w)) ≡ false
put_flag true w t p = plain_cond t p
put_flag false w t p = refl

put_bind : (p q : Bool) (up : Bool) (w z name : ℕ) (ty : Ty) (a b c : Form) → has_binder (cond p (Form.bind up w name ty a) (cond q (Form.bind up z name ty b) (Form.bind up w name ty c))) ≡ true
put_bind true q up w z name ty a b c = refl
put_bind false true up w z name ty a b c = refl
put_bind false false up w z name ty a b c = refl

mutual
  put_binder : (n x : ℕ) (t : Term) (f : Form) → IsPlain t → has_binder (subst_within n x t f) ≡ has_binder f
  put_binder zero x t f p = refl
  put_binder (suc n) x t (Form.number v) p = refl
  put_binder (suc n) x t (Form.variable w) p = put_leaf (x == w) w t p
  put_binder (suc n) x t (Form.sum a b) p = ap₂ (λ p q. p || q) (put_binder n x t a p) (put_binder n x t b p)
  put_binder (suc n) x t (Form.difference a b) p = ap₂ (λ p q. p || q) (put_binder n x t a p) (put_binder n x t b p)
  put_binder (suc n) x t (Form.cut a b) p = ap₂ (λ p q. p || q) (put_binder n x t a p) (put_binder n x t b p)
  put_binder (suc n) x t (Form.product a b span) p = ap₂ (λ p q. p || q) (put_binder n x t a p) (put_binder n x t b p)
  put_binder (suc n) x t (Form.min a b) p = ap₂ (λ p q. p || q) (put_binder n x t a p) (put_binder n x t b p)
  put_binder (suc n) x t (Form.max a b) p = ap₂ (λ p q. p || q) (put_binder n x t a p) (put_binder n x t b p)
  put_binder (suc n) x t (Form.imply a b) p = ap₂ (λ p q. p || q) (put_binder n x t a p) (put_binder n x t b p)
  put_binder (suc n) x t (Form.co_imply a b) p = ap₂ (λ p q. p || q) (put_binder n x t a p) (put_binder n x t b p)
  put_binder (suc n) x t (Form.scale w a) p = put_binder n x t a p
  put_binder (suc n) x t (Form.validate a) p = put_binder n x t a p
  put_binder (suc n) x t (Form.co_validate a) p = put_binder n x t a p
  put_binder (suc n) x t (Form.embed g) p = put_binder_in n x t g p
  put_binder (suc n) x t (Form.iverson g) p = put_binder_in n x t g p
  put_binder (suc n) x t (Form.select g a b) p = ap₂ (λ p q. p || q) (put_binder_in n x t g p) (ap₂ (λ p q. p || q) (put_binder n x t a p) (put_binder n x t b p))
  put_binder (suc n) x t (Form.bind up w name ty a) p = put_bind (x == w) (occurs_in_term w t && is_free x a) up w (fresh a t) name ty a (subst_within n x t (renamed w (fresh a t) a)) (subst_within n x t a)

  put_binder_in : (n x : ℕ) (t : Term) (g : Cond) → IsPlain t → has_binder_in (subst_within_in n x t g) ≡ has_binder_in g
  put_binder_in zero x t g p = refl
  put_binder_in (suc n) x t (Cond.constant b) p = refl
  put_binder_in (suc n) x t (Cond.flag w) p = put_flag (x == w) w t p
  put_binder_in (suc n) x t (Cond.not g) p = put_binder_in n x t g p
  put_binder_in (suc n) x t (Cond.and g h) p = ap₂ (λ p q. p || q) (put_binder_in n x t g p) (put_binder_in n x t h p)
  put_binder_in (suc n) x t (Cond.or g h) p = ap₂ (λ p q. p || q) (put_binder_in n x t g p) (put_binder_in n x t h p)
  put_binder_in (suc n) x t (Cond.same g h) p = ap₂ (λ p q. p || q) (put_binder_in n x t g p) (put_binder_in n x t h p)
  put_binder_in (suc n) x t (Cond.le a b) p = ap₂ (λ p q. p || q) (put_binder n x t a p) (put_binder n x t b p)
  put_binder_in (suc n) x t (Cond.lt a b) p = ap₂ (λ p q. p || q) (put_binder n x t a p) (put_binder n x t b p)
  put_binder_in (suc n) x t (Cond.equal a b) p = ap₂ (λ p q. p || q) (put_binder n x t a p) (put_binder n x t b p)
  put_binder_in (suc n) x t (Cond.ite g h k) p = ap₂ (λ p q. p || q) (put_binder_in n x t g p) (ap₂ (λ p q. p || q) (put_binder_in n x t h p) (put_binder_in n x t k p))

or_first : (p q : Bool) → p ≡ true → (p || q) ≡ true
or_first p q e = rw e refl

or_second : (p q : Bool) → q ≡ true → (p || q) ≡ true
or_second true q e = refl
or_second false q e = e

-- Without binders, a form is directed both ways.
and_neither : (p q r s : Bool) → (p || q) ≡ false → (p ≡ false → r ≡ true) → (q ≡ false → s ≡ true) → (r && s) ≡ true
and_neither true q r s e f g = absurd (cc)
and_neither false q r s e f g = rw (f refl, g e)

none : (p q : Bool) → (p || q) ≡ false → (not p && not q) ≡ true
none true q e = absurd (cc)
none false true e = absurd (cc)
none false false e = refl

not_that : (p : Bool) → p ≡ false → not p ≡ true
not_that p e = rw e

not_this : (p q r : Bool) → (p || q) ≡ false → (q ≡ false → r ≡ true) → (not p && r) ≡ true
not_this true q r e f = absurd (cc)
not_this false q r e f = f e

pub binder_free_directed : (up : Bool) (f : Form) → has_binder f ≡ false → is_directed up f ≡ true
binder_free_directed up (Form.number v) h = refl
binder_free_directed up (Form.variable x) h = refl
binder_free_directed up (Form.sum a b) h = and_neither (has_binder a) (has_binder b) (is_directed up a) (is_directed up b) h (binder_free_directed up a) (binder_free_directed up b)
binder_free_directed up (Form.min a b) h = and_neither (has_binder a) (has_binder b) (is_directed up a) (is_directed up b) h (binder_free_directed up a) (binder_free_directed up b)
binder_free_directed up (Form.max a b) h = and_neither (has_binder a) (has_binder b) (is_directed up a) (is_directed up b) h (binder_free_directed up a) (binder_free_directed up b)
binder_free_directed up (Form.difference a b) h = not_that (has_binder a || has_binder b) h
binder_free_directed up (Form.cut a b) h = not_that (has_binder a || has_binder b) h
binder_free_directed up (Form.product a b span) h = or_first _ _ (not_that (has_binder a || has_binder b) h)
binder_free_directed up (Form.scale w a) h = binder_free_directed up a h
binder_free_directed true (Form.imply a b) h = none (has_binder a) (has_binder b) h
binder_free_directed false (Form.imply a b) h = not_this (has_binder a) (has_binder b) (is_directed false b) h (binder_free_directed false b)
binder_free_directed true (Form.co_imply a b) h = not_this (has_binder a) (has_binder b) (is_directed true b) h (binder_free_directed true b)
binder_free_directed false (Form.co_imply a b) h = none (has_binder a) (has_binder b) h
binder_free_directed true (Form.validate a) h = not_that (has_binder a) h
binder_free_directed false (Form.validate a) h = binder_free_directed false a h
binder_free_directed true (Form.co_validate a) h = binder_free_directed true a h
binder_free_directed false (Form.co_validate a) h = not_that (has_binder a) h
binder_free_directed up (Form.embed g) h = not_that (has_binder_in g) h
binder_free_directed up (Form.iverson g) h = not_that (has_binder_in g) h
binder_free_directed up (Form.select g a b) h = not_this (has_binder_in g) (has_binder a || has_binder b) (is_directed up a && is_directed up b) h (λ k. and_neither (has_binder a) (has_binder b) (is_directed up a) (is_directed up b) k (binder_free_directed up a) (binder_free_directed up b))
binder_free_directed up (Form.bind d x name ty a) h = absurd (cc)

put_leaf_directed : (up b : Bool) (w : ℕ) (t : Term) → IsPlain t → is_directed up (cond b (as_form t) (Form.variable w)) ≡ true
put_leaf_directed up b w t p = binder_free_directed up (cond b (as_form t) (Form.variable w)) (put_leaf b w t p)

both_true : (p q : Bool) → p ≡ true → q ≡ true → (p && q) ≡ true
both_true p q e f = rw (e, f) refl

parted : (p q : Bool) → (p && q) ≡ true → (p ≡ true) × (q ≡ true)
parted true q h = (refl, h)
parted false q h = absurd (cc)

put_number : (n x : ℕ) (t : Term) (f : Form) → is_number f ≡ true → is_number (subst_within n x t f) ≡ true
put_number zero x t f h = h
put_number (suc n) x t (Form.number v) h = h
put_number (suc n) y t (Form.variable x) h = absurd (cc)
put_number (suc n) y t (Form.sum a b) h = absurd (cc)
put_number (suc n) y t (Form.difference a b) h = absurd (cc)
put_number (suc n) y t (Form.cut a b) h = absurd (cc)
put_number (suc n) y t (Form.scale w a) h = absurd (cc)
put_number (suc n) y t (Form.product a b span) h = absurd (cc)
put_number (suc n) y t (Form.min a b) h = absurd (cc)
put_number (suc n) y t (Form.max a b) h = absurd (cc)
put_number (suc n) y t (Form.imply a b) h = absurd (cc)
put_number (suc n) y t (Form.co_imply a b) h = absurd (cc)
put_number (suc n) y t (Form.validate a) h = absurd (cc)
put_number (suc n) y t (Form.co_validate a) h = absurd (cc)
put_number (suc n) y t (Form.embed g) h = absurd (cc)
put_number (suc n) y t (Form.iverson g) h = absurd (cc)
put_number (suc n) y t (Form.select g a b) h = absurd (cc)
put_number (suc n) y t (Form.bind up x name ty a) h = absurd (cc)

put_weight : (n x : ℕ) (t : Term) (f : Form) → IsPlain t → is_weight f ≡ true → is_weight (subst_within n x t f) ≡ true
put_weight zero x t f p h = h
put_weight (suc n) y t (Form.number v) p h = absurd (cc)
put_weight (suc n) y t (Form.variable x) p h = absurd (cc)
put_weight (suc n) y t (Form.sum a b) p h = absurd (cc)
put_weight (suc n) y t (Form.difference a b) p h = absurd (cc)
put_weight (suc n) y t (Form.cut a b) p h = let q = parted (is_number a) (not (has_binder b)) h in both_true _ _ (put_number n y t a q.0) (ap not (put_binder n y t b p) ∙ q.1)
put_weight (suc n) y t (Form.scale w a) p h = absurd (cc)
put_weight (suc n) y t (Form.product a b span) p h = absurd (cc)
put_weight (suc n) y t (Form.min a b) p h = let q = parted (not (has_binder a)) (is_number b) h in both_true _ _ (ap not (put_binder n y t a p) ∙ q.0) (put_number n y t b q.1)
put_weight (suc n) y t (Form.max a b) p h = absurd (cc)
put_weight (suc n) y t (Form.imply a b) p h = absurd (cc)
put_weight (suc n) y t (Form.co_imply a b) p h = absurd (cc)
put_weight (suc n) y t (Form.validate a) p h = absurd (cc)
put_weight (suc n) y t (Form.co_validate a) p h = absurd (cc)
put_weight (suc n) y t (Form.embed g) p h = absurd (cc)
put_weight (suc n) y t (Form.iverson g) p h = absurd (cc)
put_weight (suc n) y t (Form.select g a b) p h = absurd (cc)
put_weight (suc n) y t (Form.bind up x name ty a) p h = absurd (cc)

put_bind_directed : (up p q d : Bool) (w z name : ℕ) (ty : Ty) (a b c : Form) → (agree up d && is_directed up a) ≡ true → is_directed up b ≡ true → is_directed up c ≡ true → is_directed up (cond p (Form.bind d w name ty a) (cond q (Form.bind d z name ty b) (Form.bind d w name ty c))) ≡ true
put_bind_directed up true q d w z name ty a b c h e f = h
put_bind_directed up false true d w z name ty a b c h e f = both_true _ _ (parted (agree up d) (is_directed up a) h).0 e
put_bind_directed up false false d w z name ty a b c h e f = both_true _ _ (parted (agree up d) (is_directed up a) h).0 f

one_of : (p q r s : Bool) → (p || q) ≡ true → (p ≡ true → r ≡ true) → (q ≡ true → s ≡ true) → (r || s) ≡ true
one_of true q r s h f g = or_first r s (f refl)
one_of false q r s h f g = or_second r s (g h)

put_directed : (up : Bool) (n x : ℕ) (t : Term) (f : Form) → IsPlain t → is_directed up f ≡ true → is_directed up (subst_within n x t f) ≡ true
put_directed up zero x t f p h = h
put_directed up (suc n) x t (Form.number c) p h = refl
put_directed up (suc n) x t (Form.variable w) p h = put_leaf_directed up (x == w) w t p
put_directed up (suc n) x t (Form.sum a b) p h = let q = parted (is_directed up a) (is_directed up b) h in both_true _ _ (put_directed up n x t a p q.0) (put_directed up n x t b p q.1)
put_directed up (suc n) x t (Form.min a b) p h = let q = parted (is_directed up a) (is_directed up b) h in both_true _ _ (put_directed up n x t a p q.0) (put_directed up n x t b p q.1)
put_directed up (suc n) x t (Form.max a b) p h = let q = parted (is_directed up a) (is_directed up b) h in both_true _ _ (put_directed up n x t a p q.0) (put_directed up n x t b p q.1)
put_directed up (suc n) x t (Form.difference a b) p h = ap₂ (λ p q. not (p || q)) (put_binder n x t a p) (put_binder n x t b p) ∙ h
put_directed up (suc n) x t (Form.cut a b) p h = ap₂ (λ p q. not (p || q)) (put_binder n x t a p) (put_binder n x t b p) ∙ h
put_directed up (suc n) x t (Form.product a b span) p h = one_of (not (has_binder a || has_binder b)) (is_weight a && is_directed up b) _ _ h (λ k. ap₂ (λ p q. not (p || q)) (put_binder n x t a p) (put_binder n x t b p) ∙ k) (λ k. let q = parted (is_weight a) (is_directed up b) k in both_true _ _ (put_weight n x t a p q.0) (put_directed up n x t b p q.1))
put_directed up (suc n) x t (Form.scale w a) p h = put_directed up n x t a p h
put_directed true (suc n) x t (Form.imply a b) p h = ap₂ (λ p q. not p && not q) (put_binder n x t a p) (put_binder n x t b p) ∙ h
put_directed false (suc n) x t (Form.imply a b) p h = let q = parted (not (has_binder a)) (is_directed false b) h in both_true _ _ (ap not (put_binder n x t a p) ∙ q.0) (put_directed false n x t b p q.1)
put_directed true (suc n) x t (Form.co_imply a b) p h = let q = parted (not (has_binder a)) (is_directed true b) h in both_true _ _ (ap not (put_binder n x t a p) ∙ q.0) (put_directed true n x t b p q.1)
put_directed false (suc n) x t (Form.co_imply a b) p h = ap₂ (λ p q. not p && not q) (put_binder n x t a p) (put_binder n x t b p) ∙ h
put_directed true (suc n) x t (Form.validate a) p h = ap not (put_binder n x t a p) ∙ h
put_directed false (suc n) x t (Form.validate a) p h = put_directed false n x t a p h
put_directed true (suc n) x t (Form.co_validate a) p h = put_directed true n x t a p h
put_directed false (suc n) x t (Form.co_validate a) p h = ap not (put_binder n x t a p) ∙ h
put_directed up (suc n) x t (Form.embed g) p h = ap not (put_binder_in n x t g p) ∙ h
put_directed up (suc n) x t (Form.iverson g) p h = ap not (put_binder_in n x t g p) ∙ h
put_directed up (suc n) x t (Form.select g a b) p h = let q = parted (not (has_binder_in g)) (is_directed up a && is_directed up b) h in let r = parted (is_directed up a) (is_directed up b) q.1 in both_true _ _ (ap not (put_binder_in n x t g p) ∙ q.0) (both_true _ _ (put_directed up n x t a p r.0) (put_directed up n x t b p r.1))
put_directed up (suc n) x t (Form.bind d w name ty a) p h = let q = parted (agree up d) (is_directed up a) h in put_bind_directed up (x == w) (occurs_in_term w t && is_free x a) d w (fresh a t) name ty a (subst_within n x t (renamed w (fresh a t) a)) (subst_within n x t a) h (put_directed up n x t (renamed w (fresh a t) a) p (renamed_directed up w (fresh a t) a ∙ q.1)) (put_directed up n x t a p q.1)

pub subst_binders : (x : ℕ) (t : Term) (f : Form) → IsPlain t → has_binder (Replaced.subst x t f) ≡ has_binder f
unfolding Replaced.subst
subst_binders x t f p = put_binder (suc (nodes f)) x t f p

pub subst_directions : (up : Bool) (x : ℕ) (t : Term) (f : Form) → IsPlain t → is_directed up f ≡ true → is_directed up (Replaced.subst x t f) ≡ true
unfolding Replaced.subst
subst_directions up x t f p h = put_directed up (suc (nodes f)) x t f p h
