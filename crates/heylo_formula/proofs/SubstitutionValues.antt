-- The value of a form after a substitution is its value in the changed state.
use Rattle.std.proofs.Common.{◌≡◌, ℕ, ◌<◌, refl, sym, ap, ap₂, ◌∙◌, arith, Bool, true, false, not, cond, ◌==◌, ◌||◌, ◌&&◌, inl, inr, ◌⊎◌}
use Prim.Native.Nat.{zero, suc}
use Rattle.heyvl_num.specs.Value.{Value, zeroᵛ, oneᵛ, leqᵛ, ◌+ᵛ◌, ◌*ᵛ◌}
use Rattle.heyvl_num.specs.Value.Value.{finite, infinite}
use Rattle.heyvl_num.specs.ValueOperators.{minᵛ, maxᵛ, impliesᵛ, coimpliesᵛ, monusᵛ}
use Rattle.heylo_formula.specs.Operators.{differenceᵛ, validateᵛ, covalidateᵛ, lessᵛ, equalᵛ, agree, finite_part, is_finite}
use Rattle.heylo_formula.specs.State.{Env, put, fit, truth_of, number_of}
use Rattle.heylo_formula.specs.Choices.{Choices, here, left, right}
use Rattle.heylo_formula.specs.Formula.{Form, Cond, Term}
use Rattle.heylo_formula.specs.Variables.{is_free, occurs, occurs_in_term}
use Rattle.heylo_formula.specs.Meaning.{value, holds, term_value}
use Rattle.heylo_formula.specs.Binders.{IsPlain}
use Rattle.heylo_formula.specs.declared.values.Val.{Val}
use Rattle.heylo_formula.specs.declared.values.Val.TheVariants.{Truth, Num}
use Rattle.heylo_formula.specs.Sizes.{nodes, nodes_in}
use Rattle.heylo_formula.proofs.Dependence.{or_false, clash, put_again, put_commute, three, same_on, unfree, unfree_in, unused_free, unused_free_in, unchosen, unchosen_in}
use Rattle.heylo_formula.specs.Substitution.{renamed, fresh, as_form, as_cond, subst_within, subst_within_in, subst, subst_in}
use Rattle.heylo_formula.proofs.RenamedValues.{renamed_value, same_nodes}
use Rattle.heylo_formula.proofs.FreshNumbers.{fresh_is}

-- The form that replaces a variable has the term's value, for all choices.
a_number : (v : Value) → is_finite v ≡ true → v ≡ finite (finite_part v)
a_number (finite x) e = refl
a_number infinite e = absurd (cc)

plain_form : (t : Term) (s : Env) (c : Choices) → IsPlain t → value (as_form t) s c ≡ finite (number_of (term_value t s))
plain_form (Term.truth g) s c p = refl
plain_form (Term.number f) s c p = unchosen f s c p.0 ∙ a_number (value f s Choices.stop) (p.1 s)

plain_cond : (t : Term) (s : Env) (c : Choices) → IsPlain t → holds (as_cond t) s c ≡ truth_of (term_value t s)
plain_cond (Term.truth g) s c p = unchosen_in g s c p
plain_cond (Term.number f) s c p = refl

unread : (y : ℕ) (t : Term) (v : Val) (s : Env) → occurs_in_term y t ≡ false → term_value t (put y v s) ≡ term_value t s
unread y (Term.truth g) v s h = ap Truth (unfree_in y g v s Choices.stop (unused_free_in y g h))
unread y (Term.number f) v s h = ap (λ w. Num (finite_part w)) (unfree y f v s Choices.stop (unused_free y f h))

here_form : (x w : ℕ) (t : Term) (s : Env) (c : Choices) → IsPlain t → value (cond (x == w) (as_form t) (Form.variable w)) s c ≡ finite (number_of (put x (term_value t s) s w))
here_form x w t s c p = go (x == w)
  where
    go : (b : Bool) → value (cond b (as_form t) (Form.variable w)) s c ≡ finite (number_of (cond b (term_value t s) (s w)))
    go true = plain_form t s c p
    go false = refl

here_cond : (x w : ℕ) (t : Term) (s : Env) (c : Choices) → IsPlain t → holds (cond (x == w) (as_cond t) (Cond.flag w)) s c ≡ truth_of (put x (term_value t s) s w)
here_cond x w t s c p = go (x == w)
  where
    go : (b : Bool) → holds (cond b (as_cond t) (Cond.flag w)) s c ≡ truth_of (cond b (term_value t s) (s w))
    go true = plain_cond t s c p
    go false = refl

and_false : (a b : Bool) → (a && b) ≡ false → (a ≡ false) ⊎ (b ≡ false)
and_false true b h = inr h
and_false false b h = inl refl

and_true : (a b : Bool) → (a && b) ≡ true → (a ≡ true) × (b ≡ true)
and_true true b h = (refl, h)
and_true false b h = absurd (cc)

-- A free variable differs from one that does not occur.
apart : (x z : ℕ) (a : Form) → is_free x a ≡ true → occurs z a ≡ false → (x == z) ≡ false
apart x z a h k = go (x == z) refl
  where
    go : (b : Bool) → (x == z) ≡ b → b ≡ false
    go true q = let p : x ≡ z = grind arith in absurd (clash (is_free x a) h (ap (λ y. is_free y a) p ∙ unused_free z a k))
    go false q = refl

put_here : (x z : ℕ) (u v : Val) (s : Env) → (x == z) ≡ false → put x u (put z v s) z ≡ v
put_here x z u v s e = let k : (z == z) ≡ true = grind arith in rw (e, k)

-- A renamed binder: the value of the body with the new variable.
moved : (x w z : ℕ) (a : Form) (t : Term) (v : Val) (s : Env) (c : Choices) → is_free x a ≡ true → occurs z a ≡ false → occurs_in_term z t ≡ false → value (renamed w z a) (put x (term_value t (put z v s)) (put z v s)) c ≡ value a (put w v (put x (term_value t s) s)) c
moved x w z a t v s c h k l =
    ap (λ u. value (renamed w z a) (put x u (put z v s)) c) (unread z t v s l)
    ∙ renamed_value w z a (put x (term_value t s) (put z v s)) c k
    ∙ ap (λ u. value a (put w u (put x (term_value t s) (put z v s))) c) (put_here x z (term_value t s) v s (apart x z a h k))
    ∙ same_on a _ _ c (λ y q. let e : (z == y) ≡ false = swapped y z (apart y z a q k) in ap (λ b. cond (w == y) v (cond (x == y) (term_value t s) (cond b v (s y)))) e)
  where
    swapped : (y z : ℕ) → (y == z) ≡ false → (z == y) ≡ false
    swapped y z e = grind arith

-- A binder that keeps its variable.
stayed : (x w : ℕ) (a : Form) (t : Term) (v : Val) (s : Env) (c : Choices) → (x == w) ≡ false → (occurs_in_term w t ≡ false) ⊎ (is_free x a ≡ false) → value a (put x (term_value t (put w v s)) (put w v s)) c ≡ value a (put w v (put x (term_value t s) s)) c
stayed x w a t v s c e (inl h) = ap (λ u. value a (put x u (put w v s)) c) (unread w t v s h) ∙ ap (λ r. value a r c) (put_commute x w v (term_value t s) s e)
stayed x w a t v s c e (inr h) = unfree x a _ (put w v s) c h ∙ sym (unfree x a (term_value t s) (put w v s) c h) ∙ ap (λ r. value a r c) (put_commute x w v (term_value t s) s e)

bound : (n x w : ℕ) (up : Bool) (name : ℕ) (ty : _) (a : Form) (t : Term) (s : Env) (c : Choices) → ((b : Form) (r : Env) (d : Choices) → nodes b ≡ nodes a → value (subst_within n x t b) r d ≡ value b (put x (term_value t r) r) d) → value (cond (x == w) (Form.bind up w name ty a) (cond (occurs_in_term w t && is_free x a) (Form.bind up (fresh a t) name ty (subst_within n x t (renamed w (fresh a t) a))) (Form.bind up w name ty (subst_within n x t a)))) s c ≡ value a (put w (fit ty (here c)) (put x (term_value t s) s)) (left c)
bound n x w up name ty a t s c ih = go (x == w) (occurs_in_term w t && is_free x a) refl refl
  where
    go : (p q : Bool) → (x == w) ≡ p → (occurs_in_term w t && is_free x a) ≡ q → value (cond p (Form.bind up w name ty a) (cond q (Form.bind up (fresh a t) name ty (subst_within n x t (renamed w (fresh a t) a))) (Form.bind up w name ty (subst_within n x t a)))) s c ≡ value a (put w (fit ty (here c)) (put x (term_value t s) s)) (left c)
    go true q e f = ap (λ r. value a r (left c)) (sym (put_again x w (fit ty (here c)) (term_value t s) s e))
    go false true e f = ih (renamed w (fresh a t) a) (put (fresh a t) (fit ty (here c)) s) (left c) (same_nodes w (fresh a t) a) ∙ moved x w (fresh a t) a t (fit ty (here c)) s (left c) (and_true (occurs_in_term w t) (is_free x a) f).1 (or_false (occurs (fresh a t) a) (occurs_in_term (fresh a t) t) (fresh_is a t).unused).0 (or_false (occurs (fresh a t) a) (occurs_in_term (fresh a t) t) (fresh_is a t).unused).1
    go false false e f = ih a (put w (fit ty (here c)) s) (left c) refl ∙ stayed x w a t (fit ty (here c)) s (left c) e (and_false (occurs_in_term w t) (is_free x a) f)

mutual
  substituted : (n x : ℕ) (t : Term) (f : Form) (s : Env) (c : Choices) → IsPlain t → nodes f < n → value (subst_within n x t f) s c ≡ value f (put x (term_value t s) s) c
  substituted zero x t f s c p0 h0 = absurd (omega arith)
  substituted (suc n) x t (Form.number v) s c p0 h0 = refl
  substituted (suc n) x t (Form.variable w) s c p0 h0 = here_form x w t s c p0
  substituted (suc n) x t (Form.sum a b) s c p0 h0 = ap₂ (λ p q. p +ᵛ q) (substituted n x t a s (left c) p0 (omega arith)) (substituted n x t b s (right c) p0 (omega arith))
  substituted (suc n) x t (Form.difference a b) s c p0 h0 = ap₂ (λ p q. differenceᵛ p q) (substituted n x t a s (left c) p0 (omega arith)) (substituted n x t b s (right c) p0 (omega arith))
  substituted (suc n) x t (Form.cut a b) s c p0 h0 = ap₂ (λ p q. monusᵛ p q) (substituted n x t a s (left c) p0 (omega arith)) (substituted n x t b s (right c) p0 (omega arith))
  substituted (suc n) x t (Form.scale w a) s c p0 h0 = ap (λ p. finite w *ᵛ p) (substituted n x t a s c p0 (omega arith))
  substituted (suc n) x t (Form.product a b span) s c p0 h0 = ap₂ (λ p q. p *ᵛ q) (substituted n x t a s (left c) p0 (omega arith)) (substituted n x t b s (right c) p0 (omega arith))
  substituted (suc n) x t (Form.min a b) s c p0 h0 = ap₂ (λ p q. minᵛ p q) (substituted n x t a s (left c) p0 (omega arith)) (substituted n x t b s (right c) p0 (omega arith))
  substituted (suc n) x t (Form.max a b) s c p0 h0 = ap₂ (λ p q. maxᵛ p q) (substituted n x t a s (left c) p0 (omega arith)) (substituted n x t b s (right c) p0 (omega arith))
  substituted (suc n) x t (Form.imply a b) s c p0 h0 = ap₂ (λ p q. impliesᵛ p q) (substituted n x t a s (left c) p0 (omega arith)) (substituted n x t b s (right c) p0 (omega arith))
  substituted (suc n) x t (Form.co_imply a b) s c p0 h0 = ap₂ (λ p q. coimpliesᵛ p q) (substituted n x t a s (left c) p0 (omega arith)) (substituted n x t b s (right c) p0 (omega arith))
  substituted (suc n) x t (Form.validate a) s c p0 h0 = ap (λ p. validateᵛ p) (substituted n x t a s c p0 (omega arith))
  substituted (suc n) x t (Form.co_validate a) s c p0 h0 = ap (λ p. covalidateᵛ p) (substituted n x t a s c p0 (omega arith))
  substituted (suc n) x t (Form.embed g) s c p0 h0 = ap (λ p. cond p infinite zeroᵛ) (substituted_in n x t g s c p0 (omega arith))
  substituted (suc n) x t (Form.iverson g) s c p0 h0 = ap (λ p. cond p oneᵛ zeroᵛ) (substituted_in n x t g s c p0 (omega arith))
  substituted (suc n) x t (Form.select g a b) s c p0 h0 = three (substituted_in n x t g s (left c) p0 (omega arith)) (substituted n x t a s (right c) p0 (omega arith)) (substituted n x t b s (right c) p0 (omega arith))
  substituted (suc n) x t (Form.bind up w name ty a) s c p0 h0 = bound n x w up name ty a t s c (λ b r d e. substituted n x t b r d p0 (omega (arith, e)))

  substituted_in : (n x : ℕ) (t : Term) (g : Cond) (s : Env) (c : Choices) → IsPlain t → nodes_in g < n → holds (subst_within_in n x t g) s c ≡ holds g (put x (term_value t s) s) c
  substituted_in zero x t g s c p0 h0 = absurd (omega arith)
  substituted_in (suc n) x t (Cond.constant b) s c p0 h0 = refl
  substituted_in (suc n) x t (Cond.flag w) s c p0 h0 = here_cond x w t s c p0
  substituted_in (suc n) x t (Cond.not g) s c p0 h0 = ap (λ p. not p) (substituted_in n x t g s c p0 (omega arith))
  substituted_in (suc n) x t (Cond.and g h) s c p0 h0 = ap₂ (λ p q. p && q) (substituted_in n x t g s (left c) p0 (omega arith)) (substituted_in n x t h s (right c) p0 (omega arith))
  substituted_in (suc n) x t (Cond.or g h) s c p0 h0 = ap₂ (λ p q. p || q) (substituted_in n x t g s (left c) p0 (omega arith)) (substituted_in n x t h s (right c) p0 (omega arith))
  substituted_in (suc n) x t (Cond.same g h) s c p0 h0 = ap₂ (λ p q. agree p q) (substituted_in n x t g s (left c) p0 (omega arith)) (substituted_in n x t h s (right c) p0 (omega arith))
  substituted_in (suc n) x t (Cond.le a b) s c p0 h0 = ap₂ (λ p q. leqᵛ p q) (substituted n x t a s (left c) p0 (omega arith)) (substituted n x t b s (right c) p0 (omega arith))
  substituted_in (suc n) x t (Cond.lt a b) s c p0 h0 = ap₂ (λ p q. lessᵛ p q) (substituted n x t a s (left c) p0 (omega arith)) (substituted n x t b s (right c) p0 (omega arith))
  substituted_in (suc n) x t (Cond.equal a b) s c p0 h0 = ap₂ (λ p q. equalᵛ p q) (substituted n x t a s (left c) p0 (omega arith)) (substituted n x t b s (right c) p0 (omega arith))
  substituted_in (suc n) x t (Cond.ite g h k) s c p0 h0 = three (substituted_in n x t g s (left c) p0 (omega arith)) (substituted_in n x t h s (right c) p0 (omega arith)) (substituted_in n x t k s (right c) p0 (omega arith))

pub subst_value : (x : ℕ) (t : Term) (f : Form) (s : Env) (c : Choices) → IsPlain t → value (subst x t f) s c ≡ value f (put x (term_value t s) s) c
unfolding subst
subst_value x t f s c p = substituted (suc (nodes f)) x t f s c p (omega arith)

pub subst_value_in : (x : ℕ) (t : Term) (g : Cond) (s : Env) (c : Choices) → IsPlain t → holds (subst_in x t g) s c ≡ holds g (put x (term_value t s) s) c
unfolding subst_in
subst_value_in x t g s c p = substituted_in (suc (nodes_in g)) x t g s c p (omega arith)
