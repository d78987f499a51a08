-- A form without binders stays as it is when binders are removed.
use Rattle.std.proofs.Common.{◌≡◌, ℕ, ◌+◌, refl, ap, ap₂, ◌∙◌, false, ◌||◌}
use Rattle.std.proofs.Math.ListN.{length}
use Rattle.heylo_formula.specs.BinderNames.{binders, binders_in}
use Rattle.heylo_formula.specs.Binders.{has_binder, has_binder_in}
use Rattle.heylo_formula.specs.Formula.{Form, Cond}
use Rattle.heylo_formula.proofs.exported.Agreement.{or_false}
use Rattle.vp_generator.specs.PrenexedForms.{unbound, unbound_in}

three : {A B C D : Type 0} (f : A → B → C → D) (a a' : A) (b b' : B) (c c' : C) → a ≡ a' → b ≡ b' → c ≡ c' → f a b c ≡ f a' b' c'
three f a a' b b' c c' h k i = ap (λ x. f x b c) h ∙ (ap (λ x. f a' x c) k ∙ ap (λ x. f a' b' x) i)

mutual
  pub kept : (n : ℕ) (f : Form) → has_binder f ≡ false → unbound (λ x. x) n f ≡ f
  kept n (Form.number v) h = refl
  kept n (Form.variable x) h = refl
  kept n (Form.sum a b) h = let p = or_false (has_binder a) (has_binder b) h in ap₂ (λ x y. Form.sum x y) (kept n a p.0) (kept (n + length (binders a)) b p.1)
  kept n (Form.difference a b) h = let p = or_false (has_binder a) (has_binder b) h in ap₂ (λ x y. Form.difference x y) (kept n a p.0) (kept (n + length (binders a)) b p.1)
  kept n (Form.cut a b) h = let p = or_false (has_binder a) (has_binder b) h in ap₂ (λ x y. Form.cut x y) (kept n a p.0) (kept (n + length (binders a)) b p.1)
  kept n (Form.scale w a) h = ap (λ x. Form.scale w x) (kept n a h)
  kept n (Form.product a b span) h = let p = or_false (has_binder a) (has_binder b) h in ap₂ (λ x y. Form.product x y span) (kept n a p.0) (kept (n + length (binders a)) b p.1)
  kept n (Form.min a b) h = let p = or_false (has_binder a) (has_binder b) h in ap₂ (λ x y. Form.min x y) (kept n a p.0) (kept (n + length (binders a)) b p.1)
  kept n (Form.max a b) h = let p = or_false (has_binder a) (has_binder b) h in ap₂ (λ x y. Form.max x y) (kept n a p.0) (kept (n + length (binders a)) b p.1)
  kept n (Form.imply a b) h = let p = or_false (has_binder a) (has_binder b) h in ap₂ (λ x y. Form.imply x y) (kept n a p.0) (kept (n + length (binders a)) b p.1)
  kept n (Form.co_imply a b) h = let p = or_false (has_binder a) (has_binder b) h in ap₂ (λ x y. Form.co_imply x y) (kept n a p.0) (kept (n + length (binders a)) b p.1)
  kept n (Form.validate a) h = ap (λ x. Form.validate x) (kept n a h)
  kept n (Form.co_validate a) h = ap (λ x. Form.co_validate x) (kept n a h)
  kept n (Form.embed g) h = ap (λ x. Form.embed x) (kept_in n g h)
  kept n (Form.iverson g) h = ap (λ x. Form.iverson x) (kept_in n g h)
  kept n (Form.select g a b) h =
      let p = or_false (has_binder_in g) (has_binder a || has_binder b) h in
      let q = or_false (has_binder a) (has_binder b) p.1 in
      three (λ (x : Cond) (y z : Form). Form.select x y z) _ g _ a _ b (kept_in n g p.0) (kept (n + length (binders_in g)) a q.0) (kept (n + length (binders_in g) + length (binders a)) b q.1)
  kept n (Form.bind up x name ty a) h = absurd (cc)

  pub kept_in : (n : ℕ) (g : Cond) → has_binder_in g ≡ false → unbound_in (λ x. x) n g ≡ g
  kept_in n (Cond.constant b) h = refl
  kept_in n (Cond.flag x) h = refl
  kept_in n (Cond.not g) h = ap (λ x. Cond.not x) (kept_in n g h)
  kept_in n (Cond.and g k) h = let p = or_false (has_binder_in g) (has_binder_in k) h in ap₂ (λ x y. Cond.and x y) (kept_in n g p.0) (kept_in (n + length (binders_in g)) k p.1)
  kept_in n (Cond.or g k) h = let p = or_false (has_binder_in g) (has_binder_in k) h in ap₂ (λ x y. Cond.or x y) (kept_in n g p.0) (kept_in (n + length (binders_in g)) k p.1)
  kept_in n (Cond.same g k) h = let p = or_false (has_binder_in g) (has_binder_in k) h in ap₂ (λ x y. Cond.same x y) (kept_in n g p.0) (kept_in (n + length (binders_in g)) k p.1)
  kept_in n (Cond.le a b) h = let p = or_false (has_binder a) (has_binder b) h in ap₂ (λ x y. Cond.le x y) (kept n a p.0) (kept (n + length (binders a)) b p.1)
  kept_in n (Cond.lt a b) h = let p = or_false (has_binder a) (has_binder b) h in ap₂ (λ x y. Cond.lt x y) (kept n a p.0) (kept (n + length (binders a)) b p.1)
  kept_in n (Cond.equal a b) h = let p = or_false (has_binder a) (has_binder b) h in ap₂ (λ x y. Cond.equal x y) (kept n a p.0) (kept (n + length (binders a)) b p.1)
  kept_in n (Cond.ite g k l) h =
      let p = or_false (has_binder_in g) (has_binder_in k || has_binder_in l) h in
      let q = or_false (has_binder_in k) (has_binder_in l) p.1 in
      three (λ (x y z : Cond). Cond.ite x y z) _ g _ k _ l (kept_in n g p.0) (kept_in (n + length (binders_in g)) k q.0) (kept_in (n + length (binders_in g) + length (binders_in k)) l q.1)
