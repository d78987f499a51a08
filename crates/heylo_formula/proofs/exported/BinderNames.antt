-- For the proofs of other crates: renaming and substitution keep the names and the types of
-- binders.
use Rattle.std.proofs.Common.{◌≡◌, ℕ, refl, ap, ap₂, ◌∙◌, Bool, true, false, cond, ◌==◌, ◌&&◌, ◌||◌, List, [], ◌∷◌, ◌++◌}
use Prim.Native.Nat.{zero, suc}
use Rattle.heylo_formula.specs.Formula.{Form, Cond, Term}
use Rattle.heylo_formula.proofs.Dependence.{or_false}
use Rattle.heylo_formula.specs.Sizes.{nodes, nodes_in}
use Rattle.heylo_formula.specs.Variables.{is_free, occurs_in_term}
use Rattle.heylo_formula.specs.Substitution as Replaced
use Rattle.heylo_formula.specs.Substitution.{renamed, renamed_in, fresh, as_form, as_cond, subst_within, subst_within_in}
use Rattle.heylo_formula.specs.Binders.{has_binder, has_binder_in, IsPlain}
use Rattle.heylo_formula.specs.BinderNames.{Binder, binders, binders_in}

mutual
  pub names_renamed : (y z : ℕ) (f : Form) → binders (renamed y z f) ≡ binders f
  names_renamed y z (Form.number v) = refl
  names_renamed y z (Form.variable w) = go (y == w)
    where
      go : (b : Bool) → binders (cond b (Form.variable z) (Form.variable w)) ≡ []
      go true = refl
      go false = refl
  names_renamed y z (Form.sum a b) = ap₂ (λ (m : List Binder) n. m ++ n) (names_renamed y z a) (names_renamed y z b)
  names_renamed y z (Form.difference a b) = ap₂ (λ (m : List Binder) n. m ++ n) (names_renamed y z a) (names_renamed y z b)
  names_renamed y z (Form.cut a b) = ap₂ (λ (m : List Binder) n. m ++ n) (names_renamed y z a) (names_renamed y z b)
  names_renamed y z (Form.product a b span) = ap₂ (λ (m : List Binder) n. m ++ n) (names_renamed y z a) (names_renamed y z b)
  names_renamed y z (Form.min a b) = ap₂ (λ (m : List Binder) n. m ++ n) (names_renamed y z a) (names_renamed y z b)
  names_renamed y z (Form.max a b) = ap₂ (λ (m : List Binder) n. m ++ n) (names_renamed y z a) (names_renamed y z b)
  names_renamed y z (Form.imply a b) = ap₂ (λ (m : List Binder) n. m ++ n) (names_renamed y z a) (names_renamed y z b)
  names_renamed y z (Form.co_imply a b) = ap₂ (λ (m : List Binder) n. m ++ n) (names_renamed y z a) (names_renamed y z b)
  names_renamed y z (Form.scale w a) = names_renamed y z a
  names_renamed y z (Form.validate a) = names_renamed y z a
  names_renamed y z (Form.co_validate a) = names_renamed y z a
  names_renamed y z (Form.embed g) = names_renamed_in y z g
  names_renamed y z (Form.iverson g) = names_renamed_in y z g
  names_renamed y z (Form.select g a b) = ap₂ (λ (m : List Binder) n. m ++ n) (names_renamed_in y z g) (ap₂ (λ (m : List Binder) n. m ++ n) (names_renamed y z a) (names_renamed y z b))
  names_renamed y z (Form.bind up w name ty a) = go (y == w) (names_renamed y z a)
    where
      go : (b : Bool) → binders (renamed y z a) ≡ binders a → (name, ty) ∷ binders (cond b a (renamed y z a)) ≡ (name, ty) ∷ binders a
      go true h = refl
      go false h = ap (λ m. (name, ty) ∷ m) h

  pub names_renamed_in : (y z : ℕ) (g : Cond) → binders_in (renamed_in y z g) ≡ binders_in g
  names_renamed_in y z (Cond.constant b) = refl
  names_renamed_in y z (Cond.flag w) = go (y == w)
    where
      go : (b : Bool) → binders_in (cond b (Cond.flag z) (Cond.flag w)) ≡ []
      go true = refl
      go false = refl
  names_renamed_in y z (Cond.not g) = names_renamed_in y z g
  names_renamed_in y z (Cond.and g h) = ap₂ (λ (m : List Binder) n. m ++ n) (names_renamed_in y z g) (names_renamed_in y z h)
  names_renamed_in y z (Cond.or g h) = ap₂ (λ (m : List Binder) n. m ++ n) (names_renamed_in y z g) (names_renamed_in y z h)
  names_renamed_in y z (Cond.same g h) = ap₂ (λ (m : List Binder) n. m ++ n) (names_renamed_in y z g) (names_renamed_in y z h)
  names_renamed_in y z (Cond.le a b) = ap₂ (λ (m : List Binder) n. m ++ n) (names_renamed y z a) (names_renamed y z b)
  names_renamed_in y z (Cond.lt a b) = ap₂ (λ (m : List Binder) n. m ++ n) (names_renamed y z a) (names_renamed y z b)
  names_renamed_in y z (Cond.equal a b) = ap₂ (λ (m : List Binder) n. m ++ n) (names_renamed y z a) (names_renamed y z b)
  names_renamed_in y z (Cond.ite g h k) = ap₂ (λ (m : List Binder) n. m ++ n) (names_renamed_in y z g) (ap₂ (λ (m : List Binder) n. m ++ n) (names_renamed_in y z h) (names_renamed_in y z k))

variable_names : (x w : ℕ) (t : Term) → binders (as_form t) ≡ [] → binders (cond (x == w) (as_form t) (Form.variable w)) ≡ []
variable_names x w t h = go (x == w)
  where
    go : (b : Bool) → binders (cond b (as_form t) (Form.variable w)) ≡ []
    go true = h
    go false = refl

flag_names : (x w : ℕ) (t : Term) → binders_in (as_cond t) ≡ [] → binders_in (cond (x == w) (as_cond t) (Cond.flag w)) ≡ []
flag_names x w t h = go (x == w)
  where
    go : (b : Bool) → binders_in (cond b (as_cond t) (Cond.flag w)) ≡ []
    go true = h
    go false = refl

bind_names : (n x w : ℕ) (up : Bool) (name : ℕ) (ty : _) (a : Form) (t : Term) → ((b : Form) → binders (subst_within n x t b) ≡ binders b) → binders (cond (x == w) (Form.bind up w name ty a) (cond (occurs_in_term w t && is_free x a) (Form.bind up (fresh a t) name ty (subst_within n x t (renamed w (fresh a t) a))) (Form.bind up w name ty (subst_within n x t a)))) ≡ (name, ty) ∷ binders a
bind_names n x w up name ty a t ih = go (x == w) (occurs_in_term w t && is_free x a)
  where
    go : (p q : Bool) → binders (cond p (Form.bind up w name ty a) (cond q (Form.bind up (fresh a t) name ty (subst_within n x t (renamed w (fresh a t) a))) (Form.bind up w name ty (subst_within n x t a)))) ≡ (name, ty) ∷ binders a
    go true q = refl
    go false true = ap (λ m. (name, ty) ∷ m) (ih (renamed w (fresh a t) a) ∙ names_renamed w (fresh a t) a)
    go false false = ap (λ m. (name, ty) ∷ m) (ih a)

mutual
  names_within : (n : ℕ) (x : ℕ) (t : Term) → binders (as_form t) ≡ [] → binders_in (as_cond t) ≡ [] → (f : Form) → binders (subst_within n x t f) ≡ binders f
  names_within zero x t p q f = refl
  names_within (suc n) x t p q (Form.number v) = refl
  names_within (suc n) x t p q (Form.variable w) = variable_names x w t p
  names_within (suc n) x t p q (Form.sum a b) = ap₂ (λ (m : List Binder) n. m ++ n) (names_within n x t p q a) (names_within n x t p q b)
  names_within (suc n) x t p q (Form.difference a b) = ap₂ (λ (m : List Binder) n. m ++ n) (names_within n x t p q a) (names_within n x t p q b)
  names_within (suc n) x t p q (Form.cut a b) = ap₂ (λ (m : List Binder) n. m ++ n) (names_within n x t p q a) (names_within n x t p q b)
  names_within (suc n) x t p q (Form.product a b span) = ap₂ (λ (m : List Binder) n. m ++ n) (names_within n x t p q a) (names_within n x t p q b)
  names_within (suc n) x t p q (Form.min a b) = ap₂ (λ (m : List Binder) n. m ++ n) (names_within n x t p q a) (names_within n x t p q b)
  names_within (suc n) x t p q (Form.max a b) = ap₂ (λ (m : List Binder) n. m ++ n) (names_within n x t p q a) (names_within n x t p q b)
  names_within (suc n) x t p q (Form.imply a b) = ap₂ (λ (m : List Binder) n. m ++ n) (names_within n x t p q a) (names_within n x t p q b)
  names_within (suc n) x t p q (Form.co_imply a b) = ap₂ (λ (m : List Binder) n. m ++ n) (names_within n x t p q a) (names_within n x t p q b)
  names_within (suc n) x t p q (Form.scale w a) = names_within n x t p q a
  names_within (suc n) x t p q (Form.validate a) = names_within n x t p q a
  names_within (suc n) x t p q (Form.co_validate a) = names_within n x t p q a
  names_within (suc n) x t p q (Form.embed g) = names_within_in n x t p q g
  names_within (suc n) x t p q (Form.iverson g) = names_within_in n x t p q g
  names_within (suc n) x t p q (Form.select g a b) = ap₂ (λ (m : List Binder) n. m ++ n) (names_within_in n x t p q g) (ap₂ (λ (m : List Binder) n. m ++ n) (names_within n x t p q a) (names_within n x t p q b))
  names_within (suc n) x t p q (Form.bind up w name ty a) = bind_names n x w up name ty a t (λ b. names_within n x t p q b)

  names_within_in : (n : ℕ) (x : ℕ) (t : Term) → binders (as_form t) ≡ [] → binders_in (as_cond t) ≡ [] → (g : Cond) → binders_in (subst_within_in n x t g) ≡ binders_in g
  names_within_in zero x t p q g = refl
  names_within_in (suc n) x t p q (Cond.constant b) = refl
  names_within_in (suc n) x t p q (Cond.flag w) = flag_names x w t q
  names_within_in (suc n) x t p q (Cond.not g) = names_within_in n x t p q g
  names_within_in (suc n) x t p q (Cond.and g h) = ap₂ (λ (m : List Binder) n. m ++ n) (names_within_in n x t p q g) (names_within_in n x t p q h)
  names_within_in (suc n) x t p q (Cond.or g h) = ap₂ (λ (m : List Binder) n. m ++ n) (names_within_in n x t p q g) (names_within_in n x t p q h)
  names_within_in (suc n) x t p q (Cond.same g h) = ap₂ (λ (m : List Binder) n. m ++ n) (names_within_in n x t p q g) (names_within_in n x t p q h)
  names_within_in (suc n) x t p q (Cond.le a b) = ap₂ (λ (m : List Binder) n. m ++ n) (names_within n x t p q a) (names_within n x t p q b)
  names_within_in (suc n) x t p q (Cond.lt a b) = ap₂ (λ (m : List Binder) n. m ++ n) (names_within n x t p q a) (names_within n x t p q b)
  names_within_in (suc n) x t p q (Cond.equal a b) = ap₂ (λ (m : List Binder) n. m ++ n) (names_within n x t p q a) (names_within n x t p q b)
  names_within_in (suc n) x t p q (Cond.ite g h k) = ap₂ (λ (m : List Binder) n. m ++ n) (names_within_in n x t p q g) (ap₂ (λ (m : List Binder) n. m ++ n) (names_within_in n x t p q h) (names_within_in n x t p q k))

pub names_subst : (x : ℕ) (t : Term) → binders (as_form t) ≡ [] → binders_in (as_cond t) ≡ [] → (f : Form) → binders (Replaced.subst x t f) ≡ binders f
unfolding Replaced.subst
names_subst x t p q f = names_within (suc (nodes f)) x t p q f

pub names_subst_in : (x : ℕ) (t : Term) → binders (as_form t) ≡ [] → binders_in (as_cond t) ≡ [] → (g : Cond) → binders_in (Replaced.subst_in x t g) ≡ binders_in g
unfolding Replaced.subst_in
names_subst_in x t p q g = names_within_in (suc (nodes_in g)) x t p q g

mutual
  pub unnamed : (f : Form) → has_binder f ≡ false → binders f ≡ []
  unnamed (Form.number v) h0 = refl
  unnamed (Form.variable w) h0 = refl
  unnamed (Form.sum a b) h0 = let p = or_false (has_binder a) (has_binder b) h0 in ap₂ (λ (m : List Binder) n. m ++ n) (unnamed a p.0) (unnamed b p.1)
  unnamed (Form.difference a b) h0 = let p = or_false (has_binder a) (has_binder b) h0 in ap₂ (λ (m : List Binder) n. m ++ n) (unnamed a p.0) (unnamed b p.1)
  unnamed (Form.cut a b) h0 = let p = or_false (has_binder a) (has_binder b) h0 in ap₂ (λ (m : List Binder) n. m ++ n) (unnamed a p.0) (unnamed b p.1)
  unnamed (Form.scale w a) h0 = unnamed a h0
  unnamed (Form.product a b span) h0 = let p = or_false (has_binder a) (has_binder b) h0 in ap₂ (λ (m : List Binder) n. m ++ n) (unnamed a p.0) (unnamed b p.1)
  unnamed (Form.min a b) h0 = let p = or_false (has_binder a) (has_binder b) h0 in ap₂ (λ (m : List Binder) n. m ++ n) (unnamed a p.0) (unnamed b p.1)
  unnamed (Form.max a b) h0 = let p = or_false (has_binder a) (has_binder b) h0 in ap₂ (λ (m : List Binder) n. m ++ n) (unnamed a p.0) (unnamed b p.1)
  unnamed (Form.imply a b) h0 = let p = or_false (has_binder a) (has_binder b) h0 in ap₂ (λ (m : List Binder) n. m ++ n) (unnamed a p.0) (unnamed b p.1)
  unnamed (Form.co_imply a b) h0 = let p = or_false (has_binder a) (has_binder b) h0 in ap₂ (λ (m : List Binder) n. m ++ n) (unnamed a p.0) (unnamed b p.1)
  unnamed (Form.validate a) h0 = unnamed a h0
  unnamed (Form.co_validate a) h0 = unnamed a h0
  unnamed (Form.embed g) h0 = unnamed_in g h0
  unnamed (Form.iverson g) h0 = unnamed_in g h0
  unnamed (Form.select g a b) h0 = let p = or_false (has_binder_in g) (has_binder a || has_binder b) h0 in let q = or_false (has_binder a) (has_binder b) p.1 in ap₂ (λ (m : List Binder) n. m ++ n) (unnamed_in g p.0) (ap₂ (λ (m : List Binder) n. m ++ n) (unnamed a q.0) (unnamed b q.1))
  unnamed (Form.bind up w name ty a) h0 = absurd (cc)

  pub unnamed_in : (g : Cond) → has_binder_in g ≡ false → binders_in g ≡ []
  unnamed_in (Cond.constant b) h0 = refl
  unnamed_in (Cond.flag w) h0 = refl
  unnamed_in (Cond.not g) h0 = unnamed_in g h0
  unnamed_in (Cond.and g h) h0 = let p = or_false (has_binder_in g) (has_binder_in h) h0 in ap₂ (λ (m : List Binder) n. m ++ n) (unnamed_in g p.0) (unnamed_in h p.1)
  unnamed_in (Cond.or g h) h0 = let p = or_false (has_binder_in g) (has_binder_in h) h0 in ap₂ (λ (m : List Binder) n. m ++ n) (unnamed_in g p.0) (unnamed_in h p.1)
  unnamed_in (Cond.same g h) h0 = let p = or_false (has_binder_in g) (has_binder_in h) h0 in ap₂ (λ (m : List Binder) n. m ++ n) (unnamed_in g p.0) (unnamed_in h p.1)
  unnamed_in (Cond.le a b) h0 = let p = or_false (has_binder a) (has_binder b) h0 in ap₂ (λ (m : List Binder) n. m ++ n) (unnamed a p.0) (unnamed b p.1)
  unnamed_in (Cond.lt a b) h0 = let p = or_false (has_binder a) (has_binder b) h0 in ap₂ (λ (m : List Binder) n. m ++ n) (unnamed a p.0) (unnamed b p.1)
  unnamed_in (Cond.equal a b) h0 = let p = or_false (has_binder a) (has_binder b) h0 in ap₂ (λ (m : List Binder) n. m ++ n) (unnamed a p.0) (unnamed b p.1)
  unnamed_in (Cond.ite g h k) h0 = let p = or_false (has_binder_in g) (has_binder_in h || has_binder_in k) h0 in let q = or_false (has_binder_in h) (has_binder_in k) p.1 in ap₂ (λ (m : List Binder) n. m ++ n) (unnamed_in g p.0) (ap₂ (λ (m : List Binder) n. m ++ n) (unnamed_in h q.0) (unnamed_in k q.1))

plain_names : (t : Term) → IsPlain t → (binders (as_form t) ≡ []) × (binders_in (as_cond t) ≡ [])
plain_names (Term.truth g) h = (refl, unnamed_in g h)
plain_names (Term.number f) h = (unnamed f h.0, refl)

pub names_plain : (x : ℕ) (t : Term) (f : Form) → IsPlain t → binders (Replaced.subst x t f) ≡ binders f
names_plain x t f h = let p = plain_names t h in names_subst x t p.0 p.1 f
