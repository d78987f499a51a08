-- The prenexed form of a form without binders is the form itself.
use Rattle.std.proofs.Common.{◌≡◌, ℕ, ◌+◌, false, refl, ap, ap₂, List, [], ◌∷◌, ◌++◌, length}
use Rattle.heylo_formula.specs.Formula.{Form, Cond}
use Rattle.heylo_formula.specs.Binders.{has_binder}
use Rattle.heylo_formula.specs.BinderNames.{binders, binders_in}
use Rattle.heylo_formula.proofs.exported.BinderNames.{unnamed}
use Rattle.vp_generator.specs.PrenexedForms.{prenexed, unbound, unbound_in}

none_of : {X : Type 0} (xs ys : List X) → xs ++ ys ≡ [] → (xs ≡ []) × (ys ≡ [])
none_of [] ys h = (refl, h)
none_of (x ∷ xs) ys h = absurd (cc)

mutual
  kept : (f : Form) (n : ℕ) → binders f ≡ [] → unbound (λ y. y) n f ≡ f
  kept (Form.number v) n none = refl
  kept (Form.variable x) n none = refl
  kept (Form.sum a b) n none = let both = none_of (binders a) (binders b) none in ap₂ (λ p q. Form.sum p q) (kept a n both.0) (kept b (n + length (binders a)) both.1)
  kept (Form.difference a b) n none = let both = none_of (binders a) (binders b) none in ap₂ (λ p q. Form.difference p q) (kept a n both.0) (kept b (n + length (binders a)) both.1)
  kept (Form.cut a b) n none = let both = none_of (binders a) (binders b) none in ap₂ (λ p q. Form.cut p q) (kept a n both.0) (kept b (n + length (binders a)) both.1)
  kept (Form.scale w a) n none = ap (λ p. Form.scale w p) (kept a n none)
  kept (Form.product a b span) n none = let both = none_of (binders a) (binders b) none in ap₂ (λ p q. Form.product p q span) (kept a n both.0) (kept b (n + length (binders a)) both.1)
  kept (Form.min a b) n none = let both = none_of (binders a) (binders b) none in ap₂ (λ p q. Form.min p q) (kept a n both.0) (kept b (n + length (binders a)) both.1)
  kept (Form.max a b) n none = let both = none_of (binders a) (binders b) none in ap₂ (λ p q. Form.max p q) (kept a n both.0) (kept b (n + length (binders a)) both.1)
  kept (Form.imply a b) n none = let both = none_of (binders a) (binders b) none in ap₂ (λ p q. Form.imply p q) (kept a n both.0) (kept b (n + length (binders a)) both.1)
  kept (Form.co_imply a b) n none = let both = none_of (binders a) (binders b) none in ap₂ (λ p q. Form.co_imply p q) (kept a n both.0) (kept b (n + length (binders a)) both.1)
  kept (Form.validate a) n none = ap (λ p. Form.validate p) (kept a n none)
  kept (Form.co_validate a) n none = ap (λ p. Form.co_validate p) (kept a n none)
  kept (Form.embed g) n none = ap (λ p. Form.embed p) (kept_in g n none)
  kept (Form.iverson g) n none = ap (λ p. Form.iverson p) (kept_in g n none)
  kept (Form.select g a b) n none = let both = none_of (binders_in g) (binders a ++ binders b) none in let last = none_of (binders a) (binders b) both.1 in ap₂ (λ p (q : Form × Form). Form.select p q.0 q.1) (kept_in g n both.0) (ap₂ (λ p q. (p, q)) (kept a (n + length (binders_in g)) last.0) (kept b (n + length (binders_in g) + length (binders a)) last.1))
  kept (Form.bind up x name ty a) n none = absurd (cc)

  kept_in : (g : Cond) (n : ℕ) → binders_in g ≡ [] → unbound_in (λ y. y) n g ≡ g
  kept_in (Cond.constant b) n none = refl
  kept_in (Cond.flag x) n none = refl
  kept_in (Cond.not g) n none = ap (λ p. Cond.not p) (kept_in g n none)
  kept_in (Cond.and g h) n none = let both = none_of (binders_in g) (binders_in h) none in ap₂ (λ p q. Cond.and p q) (kept_in g n both.0) (kept_in h (n + length (binders_in g)) both.1)
  kept_in (Cond.or g h) n none = let both = none_of (binders_in g) (binders_in h) none in ap₂ (λ p q. Cond.or p q) (kept_in g n both.0) (kept_in h (n + length (binders_in g)) both.1)
  kept_in (Cond.same g h) n none = let both = none_of (binders_in g) (binders_in h) none in ap₂ (λ p q. Cond.same p q) (kept_in g n both.0) (kept_in h (n + length (binders_in g)) both.1)
  kept_in (Cond.le a b) n none = let both = none_of (binders a) (binders b) none in ap₂ (λ p q. Cond.le p q) (kept a n both.0) (kept b (n + length (binders a)) both.1)
  kept_in (Cond.lt a b) n none = let both = none_of (binders a) (binders b) none in ap₂ (λ p q. Cond.lt p q) (kept a n both.0) (kept b (n + length (binders a)) both.1)
  kept_in (Cond.equal a b) n none = let both = none_of (binders a) (binders b) none in ap₂ (λ p q. Cond.equal p q) (kept a n both.0) (kept b (n + length (binders a)) both.1)
  kept_in (Cond.ite g h k) n none = let both = none_of (binders_in g) (binders_in h ++ binders_in k) none in let last = none_of (binders_in h) (binders_in k) both.1 in ap₂ (λ p (q : Cond × Cond). Cond.ite p q.0 q.1) (kept_in g n both.0) (ap₂ (λ p q. (p, q)) (kept_in h (n + length (binders_in g)) last.0) (kept_in k (n + length (binders_in g) + length (binders_in h)) last.1))

pub prenexed_plain : (n : ℕ) (f : Form) → has_binder f ≡ false → prenexed n f ≡ f
prenexed_plain n f h = kept f n (unnamed f h)
