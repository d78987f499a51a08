-- The free variables after a substitution. The variable that is replaced is free in the result only
-- if it occurs in the term.
use Rattle.std.proofs.Common.{◌≡◌, ℕ, ◌<◌, ◌⊎◌, inl, inr, refl, sym, ap, subst, arith, Bool, true, false, cond, ◌==◌, ◌&&◌}
use Prim.Native.Nat.{zero, suc}
use Rattle.heylo_formula.specs.Formula.{Form, Cond, Term}
use Rattle.heylo_formula.specs.Sizes.{nodes, nodes_in}
use Rattle.heylo_formula.specs.Substitution as Replaced
use Rattle.heylo_formula.specs.Substitution.{renamed, fresh, as_form, as_cond, subst_within, subst_within_in}
use Rattle.heylo_formula.specs.Variables.{is_free, is_free_in, occurs_in_term}
use Rattle.heylo_formula.specs.declared.types.Ty.{Ty}
use Rattle.heylo_formula.proofs.exported.Agreement.{clash, neither, unused_free, unused_free_in}
use Rattle.heylo_formula.proofs.exported.Growth.{same_nodes}
use Rattle.heylo_formula.proofs.exported.Substitutions.{free_subst}

gone_form : (x : ℕ) (t : Term) → occurs_in_term x t ≡ false → is_free x (as_form t) ≡ false
gone_form x (Term.truth g) h = refl
gone_form x (Term.number f) h = unused_free x f h

gone_cond : (x : ℕ) (t : Term) → occurs_in_term x t ≡ false → is_free_in x (as_cond t) ≡ false
gone_cond x (Term.truth g) h = unused_free_in x g h
gone_cond x (Term.number f) h = refl

gone_variable : (x w : ℕ) (t : Term) → occurs_in_term x t ≡ false → is_free x (cond (x == w) (as_form t) (Form.variable w)) ≡ false
gone_variable x w t h = go (x == w) refl
  where
    go : (b : Bool) → (x == w) ≡ b → is_free x (cond b (as_form t) (Form.variable w)) ≡ false
    go true e = gone_form x t h
    go false e = e

gone_flag : (x w : ℕ) (t : Term) → occurs_in_term x t ≡ false → is_free_in x (cond (x == w) (as_cond t) (Cond.flag w)) ≡ false
gone_flag x w t h = go (x == w) refl
  where
    go : (b : Bool) → (x == w) ≡ b → is_free_in x (cond b (as_cond t) (Cond.flag w)) ≡ false
    go true e = gone_cond x t h
    go false e = e

bound : (c b : Bool) → b ≡ false → cond c false b ≡ false
bound true b h = refl
bound false b h = h

gone_bind : (n x w : ℕ) (up : Bool) (name : ℕ) (ty : Ty) (a : Form) (t : Term) → nodes a < n → ((b : Form) → nodes b < n → is_free x (subst_within n x t b) ≡ false) → is_free x (cond (x == w) (Form.bind up w name ty a) (cond (occurs_in_term w t && is_free x a) (Form.bind up (fresh a t) name ty (subst_within n x t (renamed w (fresh a t) a))) (Form.bind up w name ty (subst_within n x t a)))) ≡ false
gone_bind n x w up name ty a t l ih = go (x == w) refl (occurs_in_term w t && is_free x a)
  where
    go : (p : Bool) → (x == w) ≡ p → (q : Bool) → is_free x (cond p (Form.bind up w name ty a) (cond q (Form.bind up (fresh a t) name ty (subst_within n x t (renamed w (fresh a t) a))) (Form.bind up w name ty (subst_within n x t a)))) ≡ false
    go true e q = ap (λ c. cond c false (is_free x a)) e
    go false e true = bound (x == fresh a t) _ (ih (renamed w (fresh a t) a) (subst (λ k. k < n) (sym (same_nodes w (fresh a t) a)) l))
    go false e false = bound (x == w) _ (ih a l)

-- By induction on `n`, which is above the number of nodes.
mutual
  gone_within : (n x : ℕ) (t : Term) → occurs_in_term x t ≡ false → (f : Form) → nodes f < n → is_free x (subst_within n x t f) ≡ false
  gone_within zero x t h f l = absurd (omega (arith, l))
  gone_within (suc n) x t h (Form.number v) l = refl
  gone_within (suc n) x t h (Form.variable w) l = gone_variable x w t h
  gone_within (suc n) x t h (Form.sum a b) l = neither (gone_within n x t h a (omega (arith, l))) (gone_within n x t h b (omega (arith, l)))
  gone_within (suc n) x t h (Form.difference a b) l = neither (gone_within n x t h a (omega (arith, l))) (gone_within n x t h b (omega (arith, l)))
  gone_within (suc n) x t h (Form.cut a b) l = neither (gone_within n x t h a (omega (arith, l))) (gone_within n x t h b (omega (arith, l)))
  gone_within (suc n) x t h (Form.min a b) l = neither (gone_within n x t h a (omega (arith, l))) (gone_within n x t h b (omega (arith, l)))
  gone_within (suc n) x t h (Form.max a b) l = neither (gone_within n x t h a (omega (arith, l))) (gone_within n x t h b (omega (arith, l)))
  gone_within (suc n) x t h (Form.imply a b) l = neither (gone_within n x t h a (omega (arith, l))) (gone_within n x t h b (omega (arith, l)))
  gone_within (suc n) x t h (Form.co_imply a b) l = neither (gone_within n x t h a (omega (arith, l))) (gone_within n x t h b (omega (arith, l)))
  gone_within (suc n) x t h (Form.product a b span) l = neither (gone_within n x t h a (omega (arith, l))) (gone_within n x t h b (omega (arith, l)))
  gone_within (suc n) x t h (Form.scale w a) l = gone_within n x t h a (omega (arith, l))
  gone_within (suc n) x t h (Form.validate a) l = gone_within n x t h a (omega (arith, l))
  gone_within (suc n) x t h (Form.co_validate a) l = gone_within n x t h a (omega (arith, l))
  gone_within (suc n) x t h (Form.embed g) l = gone_within_in n x t h g (omega (arith, l))
  gone_within (suc n) x t h (Form.iverson g) l = gone_within_in n x t h g (omega (arith, l))
  gone_within (suc n) x t h (Form.select g a b) l = neither (gone_within_in n x t h g (omega (arith, l))) (neither (gone_within n x t h a (omega (arith, l))) (gone_within n x t h b (omega (arith, l))))
  gone_within (suc n) x t h (Form.bind up w name ty a) l = gone_bind n x w up name ty a t (omega (arith, l)) (λ b k. gone_within n x t h b k)

  gone_within_in : (n x : ℕ) (t : Term) → occurs_in_term x t ≡ false → (g : Cond) → nodes_in g < n → is_free_in x (subst_within_in n x t g) ≡ false
  gone_within_in zero x t h g l = absurd (omega (arith, l))
  gone_within_in (suc n) x t h (Cond.constant b) l = refl
  gone_within_in (suc n) x t h (Cond.flag w) l = gone_flag x w t h
  gone_within_in (suc n) x t h (Cond.not g) l = gone_within_in n x t h g (omega (arith, l))
  gone_within_in (suc n) x t h (Cond.and g k) l = neither (gone_within_in n x t h g (omega (arith, l))) (gone_within_in n x t h k (omega (arith, l)))
  gone_within_in (suc n) x t h (Cond.or g k) l = neither (gone_within_in n x t h g (omega (arith, l))) (gone_within_in n x t h k (omega (arith, l)))
  gone_within_in (suc n) x t h (Cond.same g k) l = neither (gone_within_in n x t h g (omega (arith, l))) (gone_within_in n x t h k (omega (arith, l)))
  gone_within_in (suc n) x t h (Cond.le a b) l = neither (gone_within n x t h a (omega (arith, l))) (gone_within n x t h b (omega (arith, l)))
  gone_within_in (suc n) x t h (Cond.lt a b) l = neither (gone_within n x t h a (omega (arith, l))) (gone_within n x t h b (omega (arith, l)))
  gone_within_in (suc n) x t h (Cond.equal a b) l = neither (gone_within n x t h a (omega (arith, l))) (gone_within n x t h b (omega (arith, l)))
  gone_within_in (suc n) x t h (Cond.ite c g k) l = neither (gone_within_in n x t h c (omega (arith, l))) (neither (gone_within_in n x t h g (omega (arith, l))) (gone_within_in n x t h k (omega (arith, l))))

pub gone : (x : ℕ) (t : Term) (f : Form) → occurs_in_term x t ≡ false → is_free x (Replaced.subst x t f) ≡ false
unfolding Replaced.subst
gone x t f h = gone_within (suc (nodes f)) x t h f (omega arith)

pub left_free : (x y : ℕ) (t : Term) (f : Form) → is_free y (Replaced.subst x t f) ≡ true → ((is_free y f ≡ true) × ((y == x) ≡ false)) ⊎ (occurs_in_term y t ≡ true)
left_free x y t f h = go (occurs_in_term y t) refl (free_subst x y t f h)
  where
    other : occurs_in_term y t ≡ false → (b : Bool) → (y == x) ≡ b → b ≡ false
    other o true e = let p : x ≡ y = grind arith in absurd (clash (is_free y (Replaced.subst x t f)) h (subst (λ z. is_free y (Replaced.subst z t f) ≡ false) (sym p) (gone y t f o)))
    other o false e = refl

    go : (o : Bool) → occurs_in_term y t ≡ o → (is_free y f ≡ true) ⊎ (occurs_in_term y t ≡ true) → ((is_free y f ≡ true) × ((y == x) ≡ false)) ⊎ (occurs_in_term y t ≡ true)
    go true o k = inr o
    go false o (inl k) = inl (k, other o (y == x) refl)
    go false o (inr k) = inr k
