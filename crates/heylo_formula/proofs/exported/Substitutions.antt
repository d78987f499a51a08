-- For the proofs of other crates: the free variables and the number of nodes of the result of a
-- substitution.
use Rattle.std.proofs.Common.{◌≡◌, ℕ, ◌<◌, ◌+◌, refl, sym, ap, ap₂, ◌∙◌, subst, arith, Bool, true, false, cond, ◌==◌, ◌&&◌, ◌||◌, ◌⊎◌, inl, inr}
use Prim.Native.Nat.{zero, suc}
use Rattle.heylo_formula.specs.Formula.{Form, Cond, Term}
use Rattle.heylo_formula.specs.Sizes.{nodes, nodes_in}
use Rattle.heylo_formula.specs.Variables.{is_free, is_free_in, occurs, occurs_in, occurs_in_term, IsOver, IsOverIn}
use Rattle.heylo_formula.specs.Substitution as Replaced
use Rattle.heylo_formula.specs.Substitution.{renamed, renamed_in, fresh, as_form, as_cond, subst_within, subst_within_in, nodes_put, nodes_put_in}
use Rattle.heylo_formula.specs.declared.types.Ty.{Ty}
use Rattle.heylo_formula.proofs.Dependence.{or_false, clash, unused_free, unused_free_in}
use Rattle.heylo_formula.proofs.RenamedValues.{same_nodes}
use Rattle.heylo_formula.proofs.SubstitutionTypes.{kept, kept_in}
pub use Rattle.heylo_formula.proofs.RenamedValues.{renamed_value, renamed_value_in}
pub use Rattle.heylo_formula.proofs.SubstitutionBinders.{renamed_binder, renamed_binder_in, renamed_directed, subst_binders, subst_directions, binder_free_directed}
pub use Rattle.heylo_formula.proofs.SubstitutionTypes.{renamed_type, renamed_truth, subst_fits, subst_well_typed, subst_formula}
pub use Rattle.heylo_formula.proofs.SubstitutionValues.{subst_value, subst_value_in}
pub use Rattle.heylo_formula.proofs.SubstitutionSteps.{substitutions}
pub use Rattle.heylo_formula.proofs.FreshNumbers.{fresh_is}

-- ---- Variables that are not free

pub kept_subst : (x : ℕ) (t : Term) (f : Form) → is_free x f ≡ false → Replaced.subst x t f ≡ f
unfolding Replaced.subst
kept_subst x t f h = kept (suc (nodes f)) x t f h

pub kept_subst_in : (x : ℕ) (t : Term) (g : Cond) → is_free_in x g ≡ false → Replaced.subst_in x t g ≡ g
unfolding Replaced.subst_in
kept_subst_in x t g h = kept_in (suc (nodes_in g)) x t g h

-- ---- Free variables

or_left : (a b : Bool) → a ≡ true → (a || b) ≡ true
or_left a b h = rw h

or_right : (a b : Bool) → b ≡ true → (a || b) ≡ true
or_right true b h = refl
or_right false b h = h

-- One of the two is true.
abbrev One : Bool → Bool → Type 0
One a b = (a ≡ true) ⊎ (b ≡ true)

one_of : (a b : Bool) → (a || b) ≡ true → One a b
one_of true b h = inl refl
one_of false b h = inr h

-- A disjunction over two operands.
from_two : (a b a' b' o : Bool) → (a' ≡ true → One a o) → (b' ≡ true → One b o) → (a' || b') ≡ true → One (a || b) o
from_two a b a' b' o f g h = go (one_of a' b' h)
  where
    wide_left : One a o → One (a || b) o
    wide_left (inl k) = inl (or_left a b k)
    wide_left (inr k) = inr k

    wide_right : One b o → One (a || b) o
    wide_right (inl k) = inl (or_right a b k)
    wide_right (inr k) = inr k

    go : One a' b' → One (a || b) o
    go (inl k) = wide_left (f k)
    go (inr k) = wide_right (g k)

free_occurs : (x : ℕ) (f : Form) → is_free x f ≡ true → occurs x f ≡ true
free_occurs x f h = go (occurs x f) refl
  where
    go : (b : Bool) → occurs x f ≡ b → b ≡ true
    go true e = refl
    go false e = absurd (clash (is_free x f) h (unused_free x f e))

free_occurs_in : (x : ℕ) (g : Cond) → is_free_in x g ≡ true → occurs_in x g ≡ true
free_occurs_in x g h = go (occurs_in x g) refl
  where
    go : (b : Bool) → occurs_in x g ≡ b → b ≡ true
    go true e = refl
    go false e = absurd (clash (is_free_in x g) h (unused_free_in x g e))

form_occurs : (y : ℕ) (t : Term) → is_free y (as_form t) ≡ true → occurs_in_term y t ≡ true
form_occurs y (Term.truth g) h = absurd (cc)
form_occurs y (Term.number f) h = free_occurs y f h

cond_occurs : (y : ℕ) (t : Term) → is_free_in y (as_cond t) ≡ true → occurs_in_term y t ≡ true
cond_occurs y (Term.truth g) h = free_occurs_in y g h
cond_occurs y (Term.number f) h = absurd (cc)

not_bound : (t b : Bool) → cond t false b ≡ true → (t ≡ false) × (b ≡ true)
not_bound true b h = absurd (cc)
not_bound false b h = (refl, h)

unbound : (t b : Bool) → t ≡ false → b ≡ true → cond t false b ≡ true
unbound t b h k = rw (h, k)

-- A free variable of a renamed form is the new one, or it is free in the form and not the old one.
abbrev Other : ℕ → ℕ → Bool → Type 0
Other y w b = (b ≡ true) × ((y == w) ≡ false)

other_two : (y w : ℕ) (a b a' b' : Bool) → (a' ≡ true → Other y w a) → (b' ≡ true → Other y w b) → (a' || b') ≡ true → Other y w (a || b)
other_two y w a b a' b' f g h = go (one_of a' b' h)
  where
    go : One a' b' → Other y w (a || b)
    go (inl k) = let p = f k in (or_left a b p.0, p.1)
    go (inr k) = let p = g k in (or_right a b p.0, p.1)

other_number : (y w u : ℕ) → (w == u) ≡ false → (y == u) ≡ true → (y == w) ≡ false
other_number y w u h k = grind arith

not_itself : (y w u : ℕ) → (w == u) ≡ true → (y == u) ≡ false → (y == w) ≡ false
not_itself y w u h k = grind arith

other_variable : (y w z u : ℕ) → (y == z) ≡ false → is_free y (cond (w == u) (Form.variable z) (Form.variable u)) ≡ true → Other y w (y == u)
other_variable y w z u n h = go (w == u) refl h
  where
    go : (b : Bool) → (w == u) ≡ b → is_free y (cond b (Form.variable z) (Form.variable u)) ≡ true → Other y w (y == u)
    go true e k = absurd (clash (y == z) k n)
    go false e k = (k, other_number y w u e k)

other_flag : (y w z u : ℕ) → (y == z) ≡ false → is_free_in y (cond (w == u) (Cond.flag z) (Cond.flag u)) ≡ true → Other y w (y == u)
other_flag y w z u n h = go (w == u) refl h
  where
    go : (b : Bool) → (w == u) ≡ b → is_free_in y (cond b (Cond.flag z) (Cond.flag u)) ≡ true → Other y w (y == u)
    go true e k = absurd (clash (y == z) k n)
    go false e k = (k, other_number y w u e k)

other_bind : (y w z u : ℕ) (a : Form) → (is_free y (renamed w z a) ≡ true → Other y w (is_free y a)) → cond (y == u) false (is_free y (cond (w == u) a (renamed w z a))) ≡ true → Other y w (cond (y == u) false (is_free y a))
other_bind y w z u a ih h = go (w == u) refl p.1
  where
    p : ((y == u) ≡ false) × (is_free y (cond (w == u) a (renamed w z a)) ≡ true)
    p = not_bound (y == u) (is_free y (cond (w == u) a (renamed w z a))) h

    go : (b : Bool) → (w == u) ≡ b → is_free y (cond b a (renamed w z a)) ≡ true → Other y w (cond (y == u) false (is_free y a))
    go true e k = (unbound (y == u) (is_free y a) p.0 k, not_itself y w u e p.0)
    go false e k = let q = ih k in (unbound (y == u) (is_free y a) p.0 q.0, q.1)

mutual
  pub renamed_free : (y w z : ℕ) → (y == z) ≡ false → (f : Form) → is_free y (renamed w z f) ≡ true → (is_free y f ≡ true) × ((y == w) ≡ false)
  renamed_free y w z n (Form.number v) h0 = absurd (cc)
  renamed_free y w z n (Form.variable u) h0 = other_variable y w z u n h0
  renamed_free y w z n (Form.sum a b) h0 = other_two y w (is_free y a) (is_free y b) (is_free y (renamed w z a)) (is_free y (renamed w z b)) (renamed_free y w z n a) (renamed_free y w z n b) h0
  renamed_free y w z n (Form.difference a b) h0 = other_two y w (is_free y a) (is_free y b) (is_free y (renamed w z a)) (is_free y (renamed w z b)) (renamed_free y w z n a) (renamed_free y w z n b) h0
  renamed_free y w z n (Form.cut a b) h0 = other_two y w (is_free y a) (is_free y b) (is_free y (renamed w z a)) (is_free y (renamed w z b)) (renamed_free y w z n a) (renamed_free y w z n b) h0
  renamed_free y w z n (Form.scale r a) h0 = renamed_free y w z n a h0
  renamed_free y w z n (Form.product a b span) h0 = other_two y w (is_free y a) (is_free y b) (is_free y (renamed w z a)) (is_free y (renamed w z b)) (renamed_free y w z n a) (renamed_free y w z n b) h0
  renamed_free y w z n (Form.min a b) h0 = other_two y w (is_free y a) (is_free y b) (is_free y (renamed w z a)) (is_free y (renamed w z b)) (renamed_free y w z n a) (renamed_free y w z n b) h0
  renamed_free y w z n (Form.max a b) h0 = other_two y w (is_free y a) (is_free y b) (is_free y (renamed w z a)) (is_free y (renamed w z b)) (renamed_free y w z n a) (renamed_free y w z n b) h0
  renamed_free y w z n (Form.imply a b) h0 = other_two y w (is_free y a) (is_free y b) (is_free y (renamed w z a)) (is_free y (renamed w z b)) (renamed_free y w z n a) (renamed_free y w z n b) h0
  renamed_free y w z n (Form.co_imply a b) h0 = other_two y w (is_free y a) (is_free y b) (is_free y (renamed w z a)) (is_free y (renamed w z b)) (renamed_free y w z n a) (renamed_free y w z n b) h0
  renamed_free y w z n (Form.validate a) h0 = renamed_free y w z n a h0
  renamed_free y w z n (Form.co_validate a) h0 = renamed_free y w z n a h0
  renamed_free y w z n (Form.embed g) h0 = renamed_free_in y w z n g h0
  renamed_free y w z n (Form.iverson g) h0 = renamed_free_in y w z n g h0
  renamed_free y w z n (Form.select g a b) h0 = other_two y w (is_free_in y g) (is_free y a || is_free y b) (is_free_in y (renamed_in w z g)) ((is_free y (renamed w z a)) || (is_free y (renamed w z b))) (renamed_free_in y w z n g) (other_two y w (is_free y a) (is_free y b) (is_free y (renamed w z a)) (is_free y (renamed w z b)) (renamed_free y w z n a) (renamed_free y w z n b)) h0
  renamed_free y w z n (Form.bind up u name ty a) h0 = other_bind y w z u a (renamed_free y w z n a) h0

  pub renamed_free_in : (y w z : ℕ) → (y == z) ≡ false → (g : Cond) → is_free_in y (renamed_in w z g) ≡ true → (is_free_in y g ≡ true) × ((y == w) ≡ false)
  renamed_free_in y w z n (Cond.constant b) h0 = absurd (cc)
  renamed_free_in y w z n (Cond.flag u) h0 = other_flag y w z u n h0
  renamed_free_in y w z n (Cond.not g) h0 = renamed_free_in y w z n g h0
  renamed_free_in y w z n (Cond.and g h) h0 = other_two y w (is_free_in y g) (is_free_in y h) (is_free_in y (renamed_in w z g)) (is_free_in y (renamed_in w z h)) (renamed_free_in y w z n g) (renamed_free_in y w z n h) h0
  renamed_free_in y w z n (Cond.or g h) h0 = other_two y w (is_free_in y g) (is_free_in y h) (is_free_in y (renamed_in w z g)) (is_free_in y (renamed_in w z h)) (renamed_free_in y w z n g) (renamed_free_in y w z n h) h0
  renamed_free_in y w z n (Cond.same g h) h0 = other_two y w (is_free_in y g) (is_free_in y h) (is_free_in y (renamed_in w z g)) (is_free_in y (renamed_in w z h)) (renamed_free_in y w z n g) (renamed_free_in y w z n h) h0
  renamed_free_in y w z n (Cond.le a b) h0 = other_two y w (is_free y a) (is_free y b) (is_free y (renamed w z a)) (is_free y (renamed w z b)) (renamed_free y w z n a) (renamed_free y w z n b) h0
  renamed_free_in y w z n (Cond.lt a b) h0 = other_two y w (is_free y a) (is_free y b) (is_free y (renamed w z a)) (is_free y (renamed w z b)) (renamed_free y w z n a) (renamed_free y w z n b) h0
  renamed_free_in y w z n (Cond.equal a b) h0 = other_two y w (is_free y a) (is_free y b) (is_free y (renamed w z a)) (is_free y (renamed w z b)) (renamed_free y w z n a) (renamed_free y w z n b) h0
  renamed_free_in y w z n (Cond.ite g h k) h0 = other_two y w (is_free_in y g) (is_free_in y h || is_free_in y k) (is_free_in y (renamed_in w z g)) ((is_free_in y (renamed_in w z h)) || (is_free_in y (renamed_in w z k))) (renamed_free_in y w z n g) (other_two y w (is_free_in y h) (is_free_in y k) (is_free_in y (renamed_in w z h)) (is_free_in y (renamed_in w z k)) (renamed_free_in y w z n h) (renamed_free_in y w z n k)) h0

from_variable : (x y w : ℕ) (t : Term) → is_free y (cond (x == w) (as_form t) (Form.variable w)) ≡ true → One (y == w) (occurs_in_term y t)
from_variable x y w t h = go (x == w) h
  where
    go : (b : Bool) → is_free y (cond b (as_form t) (Form.variable w)) ≡ true → One (y == w) (occurs_in_term y t)
    go true k = inr (form_occurs y t k)
    go false k = inl k

from_flag : (x y w : ℕ) (t : Term) → is_free_in y (cond (x == w) (as_cond t) (Cond.flag w)) ≡ true → One (y == w) (occurs_in_term y t)
from_flag x y w t h = go (x == w) h
  where
    go : (b : Bool) → is_free_in y (cond b (as_cond t) (Cond.flag w)) ≡ true → One (y == w) (occurs_in_term y t)
    go true k = inr (cond_occurs y t k)
    go false k = inl k

from_bind : (n x y w : ℕ) (up : Bool) (name : ℕ) (ty : Ty) (a : Form) (t : Term) → ((b : Form) → is_free y (subst_within n x t b) ≡ true → One (is_free y b) (occurs_in_term y t)) → is_free y (cond (x == w) (Form.bind up w name ty a) (cond (occurs_in_term w t && is_free x a) (Form.bind up (fresh a t) name ty (subst_within n x t (renamed w (fresh a t) a))) (Form.bind up w name ty (subst_within n x t a)))) ≡ true → One (cond (y == w) false (is_free y a)) (occurs_in_term y t)
from_bind n x y w up name ty a t ih h = go (x == w) (occurs_in_term w t && is_free x a) h
  where
    kept_name : (y == w) ≡ false → One (is_free y a) (occurs_in_term y t) → One (cond (y == w) false (is_free y a)) (occurs_in_term y t)
    kept_name e (inl k) = inl (unbound (y == w) (is_free y a) e k)
    kept_name e (inr k) = inr k

    new_name : (y == fresh a t) ≡ false → One (is_free y (renamed w (fresh a t) a)) (occurs_in_term y t) → One (cond (y == w) false (is_free y a)) (occurs_in_term y t)
    new_name e (inl k) = let q = renamed_free y w (fresh a t) e a k in inl (unbound (y == w) (is_free y a) q.1 q.0)
    new_name e (inr k) = inr k

    go : (p q : Bool) → is_free y (cond p (Form.bind up w name ty a) (cond q (Form.bind up (fresh a t) name ty (subst_within n x t (renamed w (fresh a t) a))) (Form.bind up w name ty (subst_within n x t a)))) ≡ true → One (cond (y == w) false (is_free y a)) (occurs_in_term y t)
    go true q k = inl k
    go false true k = let p = not_bound (y == fresh a t) (is_free y (subst_within n x t (renamed w (fresh a t) a))) k in new_name p.0 (ih (renamed w (fresh a t) a) p.1)
    go false false k = let p = not_bound (y == w) (is_free y (subst_within n x t a)) k in kept_name p.0 (ih a p.1)

mutual
  free_within : (n x y : ℕ) (t : Term) (f : Form) → is_free y (subst_within n x t f) ≡ true → One (is_free y f) (occurs_in_term y t)
  free_within zero x y t f h0 = inl h0
  free_within (suc n) x y t (Form.number v) h0 = absurd (cc)
  free_within (suc n) x y t (Form.variable w) h0 = from_variable x y w t h0
  free_within (suc n) x y t (Form.sum a b) h0 = from_two (is_free y a) (is_free y b) (is_free y (subst_within n x t a)) (is_free y (subst_within n x t b)) (occurs_in_term y t) (free_within n x y t a) (free_within n x y t b) h0
  free_within (suc n) x y t (Form.difference a b) h0 = from_two (is_free y a) (is_free y b) (is_free y (subst_within n x t a)) (is_free y (subst_within n x t b)) (occurs_in_term y t) (free_within n x y t a) (free_within n x y t b) h0
  free_within (suc n) x y t (Form.cut a b) h0 = from_two (is_free y a) (is_free y b) (is_free y (subst_within n x t a)) (is_free y (subst_within n x t b)) (occurs_in_term y t) (free_within n x y t a) (free_within n x y t b) h0
  free_within (suc n) x y t (Form.scale w a) h0 = free_within n x y t a h0
  free_within (suc n) x y t (Form.product a b span) h0 = from_two (is_free y a) (is_free y b) (is_free y (subst_within n x t a)) (is_free y (subst_within n x t b)) (occurs_in_term y t) (free_within n x y t a) (free_within n x y t b) h0
  free_within (suc n) x y t (Form.min a b) h0 = from_two (is_free y a) (is_free y b) (is_free y (subst_within n x t a)) (is_free y (subst_within n x t b)) (occurs_in_term y t) (free_within n x y t a) (free_within n x y t b) h0
  free_within (suc n) x y t (Form.max a b) h0 = from_two (is_free y a) (is_free y b) (is_free y (subst_within n x t a)) (is_free y (subst_within n x t b)) (occurs_in_term y t) (free_within n x y t a) (free_within n x y t b) h0
  free_within (suc n) x y t (Form.imply a b) h0 = from_two (is_free y a) (is_free y b) (is_free y (subst_within n x t a)) (is_free y (subst_within n x t b)) (occurs_in_term y t) (free_within n x y t a) (free_within n x y t b) h0
  free_within (suc n) x y t (Form.co_imply a b) h0 = from_two (is_free y a) (is_free y b) (is_free y (subst_within n x t a)) (is_free y (subst_within n x t b)) (occurs_in_term y t) (free_within n x y t a) (free_within n x y t b) h0
  free_within (suc n) x y t (Form.validate a) h0 = free_within n x y t a h0
  free_within (suc n) x y t (Form.co_validate a) h0 = free_within n x y t a h0
  free_within (suc n) x y t (Form.embed g) h0 = free_within_in n x y t g h0
  free_within (suc n) x y t (Form.iverson g) h0 = free_within_in n x y t g h0
  free_within (suc n) x y t (Form.select g a b) h0 = from_two (is_free_in y g) (is_free y a || is_free y b) (is_free_in y (subst_within_in n x t g)) ((is_free y (subst_within n x t a)) || (is_free y (subst_within n x t b))) (occurs_in_term y t) (free_within_in n x y t g) (from_two (is_free y a) (is_free y b) (is_free y (subst_within n x t a)) (is_free y (subst_within n x t b)) (occurs_in_term y t) (free_within n x y t a) (free_within n x y t b)) h0
  free_within (suc n) x y t (Form.bind up w name ty a) h0 = from_bind n x y w up name ty a t (λ b. free_within n x y t b) h0

  free_within_in : (n x y : ℕ) (t : Term) (g : Cond) → is_free_in y (subst_within_in n x t g) ≡ true → One (is_free_in y g) (occurs_in_term y t)
  free_within_in zero x y t g h0 = inl h0
  free_within_in (suc n) x y t (Cond.constant b) h0 = absurd (cc)
  free_within_in (suc n) x y t (Cond.flag w) h0 = from_flag x y w t h0
  free_within_in (suc n) x y t (Cond.not g) h0 = free_within_in n x y t g h0
  free_within_in (suc n) x y t (Cond.and g h) h0 = from_two (is_free_in y g) (is_free_in y h) (is_free_in y (subst_within_in n x t g)) (is_free_in y (subst_within_in n x t h)) (occurs_in_term y t) (free_within_in n x y t g) (free_within_in n x y t h) h0
  free_within_in (suc n) x y t (Cond.or g h) h0 = from_two (is_free_in y g) (is_free_in y h) (is_free_in y (subst_within_in n x t g)) (is_free_in y (subst_within_in n x t h)) (occurs_in_term y t) (free_within_in n x y t g) (free_within_in n x y t h) h0
  free_within_in (suc n) x y t (Cond.same g h) h0 = from_two (is_free_in y g) (is_free_in y h) (is_free_in y (subst_within_in n x t g)) (is_free_in y (subst_within_in n x t h)) (occurs_in_term y t) (free_within_in n x y t g) (free_within_in n x y t h) h0
  free_within_in (suc n) x y t (Cond.le a b) h0 = from_two (is_free y a) (is_free y b) (is_free y (subst_within n x t a)) (is_free y (subst_within n x t b)) (occurs_in_term y t) (free_within n x y t a) (free_within n x y t b) h0
  free_within_in (suc n) x y t (Cond.lt a b) h0 = from_two (is_free y a) (is_free y b) (is_free y (subst_within n x t a)) (is_free y (subst_within n x t b)) (occurs_in_term y t) (free_within n x y t a) (free_within n x y t b) h0
  free_within_in (suc n) x y t (Cond.equal a b) h0 = from_two (is_free y a) (is_free y b) (is_free y (subst_within n x t a)) (is_free y (subst_within n x t b)) (occurs_in_term y t) (free_within n x y t a) (free_within n x y t b) h0
  free_within_in (suc n) x y t (Cond.ite g h k) h0 = from_two (is_free_in y g) (is_free_in y h || is_free_in y k) (is_free_in y (subst_within_in n x t g)) ((is_free_in y (subst_within_in n x t h)) || (is_free_in y (subst_within_in n x t k))) (occurs_in_term y t) (free_within_in n x y t g) (from_two (is_free_in y h) (is_free_in y k) (is_free_in y (subst_within_in n x t h)) (is_free_in y (subst_within_in n x t k)) (occurs_in_term y t) (free_within_in n x y t h) (free_within_in n x y t k)) h0

pub free_subst : (x y : ℕ) (t : Term) (f : Form) → is_free y (Replaced.subst x t f) ≡ true → (is_free y f ≡ true) ⊎ (occurs_in_term y t ≡ true)
unfolding Replaced.subst
free_subst x y t f h = free_within (suc (nodes f)) x y t f h

pub free_subst_in : (x y : ℕ) (t : Term) (g : Cond) → is_free_in y (Replaced.subst_in x t g) ≡ true → (is_free_in y g ≡ true) ⊎ (occurs_in_term y t ≡ true)
unfolding Replaced.subst_in
free_subst_in x y t g h = free_within_in (suc (nodes_in g)) x y t g h

pub subst_over : (n x : ℕ) (t : Term) (f : Form) → IsOver n f → ((y : ℕ) → occurs_in_term y t ≡ true → y < n) → IsOver n (Replaced.subst x t f)
subst_over n x t f e k y h = go (free_subst x y t f h)
  where
    go : (is_free y f ≡ true) ⊎ (occurs_in_term y t ≡ true) → y < n
    go (inl p) = e y p
    go (inr p) = k y p

pub subst_over_in : (n x : ℕ) (t : Term) (g : Cond) → IsOverIn n g → ((y : ℕ) → occurs_in_term y t ≡ true → y < n) → IsOverIn n (Replaced.subst_in x t g)
subst_over_in n x t g e k y h = go (free_subst_in x y t g h)
  where
    go : (is_free_in y g ≡ true) ⊎ (occurs_in_term y t ≡ true) → y < n
    go (inl p) = e y p
    go (inr p) = k y p

-- ---- The number of nodes of the result

renamed_leaf : (x y z w m k : ℕ) → (x == y) ≡ false → (x == z) ≡ false → nodes_put x m k (cond (y == w) (Form.variable z) (Form.variable w)) ≡ cond (x == w) m 1
renamed_leaf x y z w m k h l = go (y == w) refl
  where
    other : (y == w) ≡ true → (x == w) ≡ false
    other e = grind arith

    go : (b : Bool) → (y == w) ≡ b → nodes_put x m k (cond b (Form.variable z) (Form.variable w)) ≡ cond (x == w) m 1
    go true e = rw (l, other e)
    go false e = refl

renamed_flag : (x y z w m k : ℕ) → (x == y) ≡ false → (x == z) ≡ false → nodes_put_in x m k (cond (y == w) (Cond.flag z) (Cond.flag w)) ≡ cond (x == w) k 1
renamed_flag x y z w m k h l = go (y == w) refl
  where
    other : (y == w) ≡ true → (x == w) ≡ false
    other e = grind arith

    go : (b : Bool) → (y == w) ≡ b → nodes_put_in x m k (cond b (Cond.flag z) (Cond.flag w)) ≡ cond (x == w) k 1
    go true e = rw (l, other e)
    go false e = refl

renamed_count_bind : (x y z w m k : ℕ) (up : Bool) (name : ℕ) (ty : Ty) (a : Form) → nodes_put x m k (renamed y z a) ≡ nodes_put x m k a → nodes_put x m k (Form.bind up w name ty (cond (y == w) a (renamed y z a))) ≡ nodes_put x m k (Form.bind up w name ty a)
renamed_count_bind x y z w m k up name ty a ih = go (y == w) (x == w)
  where
    go : (p q : Bool) → 1 + cond q (nodes (cond p a (renamed y z a))) (nodes_put x m k (cond p a (renamed y z a))) ≡ 1 + cond q (nodes a) (nodes_put x m k a)
    go true q = refl
    go false true = ap (λ n. 1 + n) (same_nodes y z a)
    go false false = ap (λ n. 1 + n) ih

mutual
  renamed_count : (x y z m k : ℕ) → (x == y) ≡ false → (x == z) ≡ false → (f : Form) → nodes_put x m k (renamed y z f) ≡ nodes_put x m k f
  renamed_count x y z m k h l (Form.number v) = refl
  renamed_count x y z m k h l (Form.variable w) = renamed_leaf x y z w m k h l
  renamed_count x y z m k h l (Form.sum a b) = ap₂ (λ p q. 1 + (p + q)) (renamed_count x y z m k h l a) (renamed_count x y z m k h l b)
  renamed_count x y z m k h l (Form.difference a b) = ap₂ (λ p q. 1 + (p + q)) (renamed_count x y z m k h l a) (renamed_count x y z m k h l b)
  renamed_count x y z m k h l (Form.cut a b) = ap₂ (λ p q. 1 + (p + q)) (renamed_count x y z m k h l a) (renamed_count x y z m k h l b)
  renamed_count x y z m k h l (Form.scale w a) = ap (λ p. 1 + p) (renamed_count x y z m k h l a)
  renamed_count x y z m k h l (Form.product a b span) = ap₂ (λ p q. 1 + (p + q)) (renamed_count x y z m k h l a) (renamed_count x y z m k h l b)
  renamed_count x y z m k h l (Form.min a b) = ap₂ (λ p q. 1 + (p + q)) (renamed_count x y z m k h l a) (renamed_count x y z m k h l b)
  renamed_count x y z m k h l (Form.max a b) = ap₂ (λ p q. 1 + (p + q)) (renamed_count x y z m k h l a) (renamed_count x y z m k h l b)
  renamed_count x y z m k h l (Form.imply a b) = ap₂ (λ p q. 1 + (p + q)) (renamed_count x y z m k h l a) (renamed_count x y z m k h l b)
  renamed_count x y z m k h l (Form.co_imply a b) = ap₂ (λ p q. 1 + (p + q)) (renamed_count x y z m k h l a) (renamed_count x y z m k h l b)
  renamed_count x y z m k h l (Form.validate a) = ap (λ p. 1 + p) (renamed_count x y z m k h l a)
  renamed_count x y z m k h l (Form.co_validate a) = ap (λ p. 1 + p) (renamed_count x y z m k h l a)
  renamed_count x y z m k h l (Form.embed g) = ap (λ p. 1 + p) (renamed_count_in x y z m k h l g)
  renamed_count x y z m k h l (Form.iverson g) = ap (λ p. 1 + p) (renamed_count_in x y z m k h l g)
  renamed_count x y z m k h l (Form.select g a b) = ap₂ (λ p q. 1 + (p + q)) (renamed_count_in x y z m k h l g) (ap₂ (λ (p : ℕ) q. p + q) (renamed_count x y z m k h l a) (renamed_count x y z m k h l b))
  renamed_count x y z m k h l (Form.bind up w name ty a) = renamed_count_bind x y z w m k up name ty a (renamed_count x y z m k h l a)

  renamed_count_in : (x y z m k : ℕ) → (x == y) ≡ false → (x == z) ≡ false → (g : Cond) → nodes_put_in x m k (renamed_in y z g) ≡ nodes_put_in x m k g
  renamed_count_in x y z m k h l (Cond.constant b) = refl
  renamed_count_in x y z m k h l (Cond.flag w) = renamed_flag x y z w m k h l
  renamed_count_in x y z m k h l (Cond.not g) = ap (λ p. 1 + p) (renamed_count_in x y z m k h l g)
  renamed_count_in x y z m k h l (Cond.and g i) = ap₂ (λ p q. 1 + (p + q)) (renamed_count_in x y z m k h l g) (renamed_count_in x y z m k h l i)
  renamed_count_in x y z m k h l (Cond.or g i) = ap₂ (λ p q. 1 + (p + q)) (renamed_count_in x y z m k h l g) (renamed_count_in x y z m k h l i)
  renamed_count_in x y z m k h l (Cond.same g i) = ap₂ (λ p q. 1 + (p + q)) (renamed_count_in x y z m k h l g) (renamed_count_in x y z m k h l i)
  renamed_count_in x y z m k h l (Cond.le a b) = ap₂ (λ p q. 1 + (p + q)) (renamed_count x y z m k h l a) (renamed_count x y z m k h l b)
  renamed_count_in x y z m k h l (Cond.lt a b) = ap₂ (λ p q. 1 + (p + q)) (renamed_count x y z m k h l a) (renamed_count x y z m k h l b)
  renamed_count_in x y z m k h l (Cond.equal a b) = ap₂ (λ p q. 1 + (p + q)) (renamed_count x y z m k h l a) (renamed_count x y z m k h l b)
  renamed_count_in x y z m k h l (Cond.ite g i j) = ap₂ (λ p q. 1 + (p + q)) (renamed_count_in x y z m k h l g) (ap₂ (λ (p : ℕ) q. p + q) (renamed_count_in x y z m k h l i) (renamed_count_in x y z m k h l j))

put_leaf : (x w : ℕ) (t : Term) → nodes (cond (x == w) (as_form t) (Form.variable w)) ≡ cond (x == w) (nodes (as_form t)) 1
put_leaf x w t = go (x == w)
  where
    go : (b : Bool) → nodes (cond b (as_form t) (Form.variable w)) ≡ cond b (nodes (as_form t)) 1
    go true = refl
    go false = refl

put_flag : (x w : ℕ) (t : Term) → nodes_in (cond (x == w) (as_cond t) (Cond.flag w)) ≡ cond (x == w) (nodes_in (as_cond t)) 1
put_flag x w t = go (x == w)
  where
    go : (b : Bool) → nodes_in (cond b (as_cond t) (Cond.flag w)) ≡ cond b (nodes_in (as_cond t)) 1
    go true = refl
    go false = refl

and_right : (a b : Bool) → (a && b) ≡ true → b ≡ true
and_right true b h = h
and_right false b h = absurd (cc)

-- A fresh variable differs from each free variable.
fresh_other : (x : ℕ) (a : Form) (t : Term) → is_free x a ≡ true → (x == fresh a t) ≡ false
fresh_other x a t h = go (x == fresh a t) refl
  where
    unused : occurs (fresh a t) a ≡ false
    unused = (or_false (occurs (fresh a t) a) (occurs_in_term (fresh a t) t) ((fresh_is a t).unused)).0

    go : (b : Bool) → (x == fresh a t) ≡ b → b ≡ false
    go true e = let p : x ≡ fresh a t = grind arith in absurd (clash (is_free x a) h (subst (λ z. is_free z a ≡ false) (sym p) (unused_free (fresh a t) a unused)))
    go false e = refl

count_bind : (n x w : ℕ) (up : Bool) (name : ℕ) (ty : Ty) (a : Form) (t : Term) → nodes a < n → ((b : Form) → nodes b < n → nodes (subst_within n x t b) ≡ nodes_put x (nodes (as_form t)) (nodes_in (as_cond t)) b) → nodes (cond (x == w) (Form.bind up w name ty a) (cond (occurs_in_term w t && is_free x a) (Form.bind up (fresh a t) name ty (subst_within n x t (renamed w (fresh a t) a))) (Form.bind up w name ty (subst_within n x t a)))) ≡ 1 + cond (x == w) (nodes a) (nodes_put x (nodes (as_form t)) (nodes_in (as_cond t)) a)
count_bind n x w up name ty a t l ih = go (x == w) (occurs_in_term w t && is_free x a) refl refl
  where
    go : (p q : Bool) → (x == w) ≡ p → (occurs_in_term w t && is_free x a) ≡ q → nodes (cond p (Form.bind up w name ty a) (cond q (Form.bind up (fresh a t) name ty (subst_within n x t (renamed w (fresh a t) a))) (Form.bind up w name ty (subst_within n x t a)))) ≡ 1 + cond p (nodes a) (nodes_put x (nodes (as_form t)) (nodes_in (as_cond t)) a)
    go true q e f = refl
    go false true e f = ap (λ k. 1 + k) (ih (renamed w (fresh a t) a) (subst (λ k. k < n) (sym (same_nodes w (fresh a t) a)) l) ∙ renamed_count x w (fresh a t) (nodes (as_form t)) (nodes_in (as_cond t)) e (fresh_other x a t (and_right (occurs_in_term w t) (is_free x a) f)) a)
    go false false e f = ap (λ k. 1 + k) (ih a l)

mutual
  count_within : (n x : ℕ) (t : Term) (f : Form) → nodes f < n → nodes (subst_within n x t f) ≡ nodes_put x (nodes (as_form t)) (nodes_in (as_cond t)) f
  count_within zero x t f h0 = absurd (omega arith)
  count_within (suc n) x t (Form.number v) h0 = refl
  count_within (suc n) x t (Form.variable w) h0 = put_leaf x w t
  count_within (suc n) x t (Form.sum a b) h0 = let pa : nodes a < n = omega arith in let pb : nodes b < n = omega arith in ap₂ (λ p q. 1 + (p + q)) (count_within n x t a pa) (count_within n x t b pb)
  count_within (suc n) x t (Form.difference a b) h0 = let pa : nodes a < n = omega arith in let pb : nodes b < n = omega arith in ap₂ (λ p q. 1 + (p + q)) (count_within n x t a pa) (count_within n x t b pb)
  count_within (suc n) x t (Form.cut a b) h0 = let pa : nodes a < n = omega arith in let pb : nodes b < n = omega arith in ap₂ (λ p q. 1 + (p + q)) (count_within n x t a pa) (count_within n x t b pb)
  count_within (suc n) x t (Form.scale w a) h0 = let pa : nodes a < n = omega arith in ap (λ p. 1 + p) (count_within n x t a pa)
  count_within (suc n) x t (Form.product a b span) h0 = let pa : nodes a < n = omega arith in let pb : nodes b < n = omega arith in ap₂ (λ p q. 1 + (p + q)) (count_within n x t a pa) (count_within n x t b pb)
  count_within (suc n) x t (Form.min a b) h0 = let pa : nodes a < n = omega arith in let pb : nodes b < n = omega arith in ap₂ (λ p q. 1 + (p + q)) (count_within n x t a pa) (count_within n x t b pb)
  count_within (suc n) x t (Form.max a b) h0 = let pa : nodes a < n = omega arith in let pb : nodes b < n = omega arith in ap₂ (λ p q. 1 + (p + q)) (count_within n x t a pa) (count_within n x t b pb)
  count_within (suc n) x t (Form.imply a b) h0 = let pa : nodes a < n = omega arith in let pb : nodes b < n = omega arith in ap₂ (λ p q. 1 + (p + q)) (count_within n x t a pa) (count_within n x t b pb)
  count_within (suc n) x t (Form.co_imply a b) h0 = let pa : nodes a < n = omega arith in let pb : nodes b < n = omega arith in ap₂ (λ p q. 1 + (p + q)) (count_within n x t a pa) (count_within n x t b pb)
  count_within (suc n) x t (Form.validate a) h0 = let pa : nodes a < n = omega arith in ap (λ p. 1 + p) (count_within n x t a pa)
  count_within (suc n) x t (Form.co_validate a) h0 = let pa : nodes a < n = omega arith in ap (λ p. 1 + p) (count_within n x t a pa)
  count_within (suc n) x t (Form.embed g) h0 = let pg : nodes_in g < n = omega arith in ap (λ p. 1 + p) (count_within_in n x t g pg)
  count_within (suc n) x t (Form.iverson g) h0 = let pg : nodes_in g < n = omega arith in ap (λ p. 1 + p) (count_within_in n x t g pg)
  count_within (suc n) x t (Form.select g a b) h0 = let pg : nodes_in g < n = omega arith in let pa : nodes a < n = omega arith in let pb : nodes b < n = omega arith in ap₂ (λ p q. 1 + (p + q)) (count_within_in n x t g pg) (ap₂ (λ (p : ℕ) q. p + q) (count_within n x t a pa) (count_within n x t b pb))
  count_within (suc n) x t (Form.bind up w name ty a) h0 = let pa : nodes a < n = omega arith in count_bind n x w up name ty a t pa (λ b k. count_within n x t b k)

  count_within_in : (n x : ℕ) (t : Term) (g : Cond) → nodes_in g < n → nodes_in (subst_within_in n x t g) ≡ nodes_put_in x (nodes (as_form t)) (nodes_in (as_cond t)) g
  count_within_in zero x t g h0 = absurd (omega arith)
  count_within_in (suc n) x t (Cond.constant b) h0 = refl
  count_within_in (suc n) x t (Cond.flag w) h0 = put_flag x w t
  count_within_in (suc n) x t (Cond.not g) h0 = let pg : nodes_in g < n = omega arith in ap (λ p. 1 + p) (count_within_in n x t g pg)
  count_within_in (suc n) x t (Cond.and g h) h0 = let pg : nodes_in g < n = omega arith in let ph : nodes_in h < n = omega arith in ap₂ (λ p q. 1 + (p + q)) (count_within_in n x t g pg) (count_within_in n x t h ph)
  count_within_in (suc n) x t (Cond.or g h) h0 = let pg : nodes_in g < n = omega arith in let ph : nodes_in h < n = omega arith in ap₂ (λ p q. 1 + (p + q)) (count_within_in n x t g pg) (count_within_in n x t h ph)
  count_within_in (suc n) x t (Cond.same g h) h0 = let pg : nodes_in g < n = omega arith in let ph : nodes_in h < n = omega arith in ap₂ (λ p q. 1 + (p + q)) (count_within_in n x t g pg) (count_within_in n x t h ph)
  count_within_in (suc n) x t (Cond.le a b) h0 = let pa : nodes a < n = omega arith in let pb : nodes b < n = omega arith in ap₂ (λ p q. 1 + (p + q)) (count_within n x t a pa) (count_within n x t b pb)
  count_within_in (suc n) x t (Cond.lt a b) h0 = let pa : nodes a < n = omega arith in let pb : nodes b < n = omega arith in ap₂ (λ p q. 1 + (p + q)) (count_within n x t a pa) (count_within n x t b pb)
  count_within_in (suc n) x t (Cond.equal a b) h0 = let pa : nodes a < n = omega arith in let pb : nodes b < n = omega arith in ap₂ (λ p q. 1 + (p + q)) (count_within n x t a pa) (count_within n x t b pb)
  count_within_in (suc n) x t (Cond.ite g h k) h0 = let pg : nodes_in g < n = omega arith in let ph : nodes_in h < n = omega arith in let pk : nodes_in k < n = omega arith in ap₂ (λ p q. 1 + (p + q)) (count_within_in n x t g pg) (ap₂ (λ (p : ℕ) q. p + q) (count_within_in n x t h ph) (count_within_in n x t k pk))

pub count_subst : (x : ℕ) (t : Term) (f : Form) → nodes (Replaced.subst x t f) ≡ nodes_put x (nodes (as_form t)) (nodes_in (as_cond t)) f
unfolding Replaced.subst
count_subst x t f = count_within (suc (nodes f)) x t f (omega arith)

pub count_subst_in : (x : ℕ) (t : Term) (g : Cond) → nodes_in (Replaced.subst_in x t g) ≡ nodes_put_in x (nodes (as_form t)) (nodes_in (as_cond t)) g
unfolding Replaced.subst_in
count_subst_in x t g = count_within_in (suc (nodes_in g)) x t g (omega arith)
