-- Without binders, a number that occurs is free.
use Rattle.std.proofs.Common.{◌≡◌, ◌||◌, ℕ, refl, ap₂, false}
use Rattle.heylo_formula.specs.Binders.{has_binder, has_binder_in}
use Rattle.heylo_formula.specs.Formula.{Form, Cond}
use Rattle.heylo_formula.specs.Variables.{is_free, is_free_in, occurs, occurs_in}
use Rattle.heylo_formula.proofs.exported.Agreement.{or_false}

mutual
  pub occurs_free : (x : ℕ) (f : Form) → has_binder f ≡ false → occurs x f ≡ is_free x f
  occurs_free x (Form.number v) h = refl
  occurs_free x (Form.variable y) h = refl
  occurs_free x (Form.sum a b) h = let p = or_false (has_binder a) (has_binder b) h in ap₂ (λ s t. s || t) (occurs_free x a p.0) (occurs_free x b p.1)
  occurs_free x (Form.difference a b) h = let p = or_false (has_binder a) (has_binder b) h in ap₂ (λ s t. s || t) (occurs_free x a p.0) (occurs_free x b p.1)
  occurs_free x (Form.cut a b) h = let p = or_false (has_binder a) (has_binder b) h in ap₂ (λ s t. s || t) (occurs_free x a p.0) (occurs_free x b p.1)
  occurs_free x (Form.product a b span) h = let p = or_false (has_binder a) (has_binder b) h in ap₂ (λ s t. s || t) (occurs_free x a p.0) (occurs_free x b p.1)
  occurs_free x (Form.min a b) h = let p = or_false (has_binder a) (has_binder b) h in ap₂ (λ s t. s || t) (occurs_free x a p.0) (occurs_free x b p.1)
  occurs_free x (Form.max a b) h = let p = or_false (has_binder a) (has_binder b) h in ap₂ (λ s t. s || t) (occurs_free x a p.0) (occurs_free x b p.1)
  occurs_free x (Form.imply a b) h = let p = or_false (has_binder a) (has_binder b) h in ap₂ (λ s t. s || t) (occurs_free x a p.0) (occurs_free x b p.1)
  occurs_free x (Form.co_imply a b) h = let p = or_false (has_binder a) (has_binder b) h in ap₂ (λ s t. s || t) (occurs_free x a p.0) (occurs_free x b p.1)
  occurs_free x (Form.scale w a) h = occurs_free x a h
  occurs_free x (Form.validate a) h = occurs_free x a h
  occurs_free x (Form.co_validate a) h = occurs_free x a h
  occurs_free x (Form.embed g) h = occurs_free_in x g h
  occurs_free x (Form.iverson g) h = occurs_free_in x g h
  occurs_free x (Form.select g a b) h = let p = or_false (has_binder_in g) (has_binder a || has_binder b) h in let q = or_false (has_binder a) (has_binder b) p.1 in ap₂ (λ s t. s || t) (occurs_free_in x g p.0) (ap₂ (λ s t. s || t) (occurs_free x a q.0) (occurs_free x b q.1))
  occurs_free x (Form.bind up y name ty a) h = absurd (cc)

  pub occurs_free_in : (x : ℕ) (g : Cond) → has_binder_in g ≡ false → occurs_in x g ≡ is_free_in x g
  occurs_free_in x (Cond.constant b) h = refl
  occurs_free_in x (Cond.flag y) h = refl
  occurs_free_in x (Cond.not g) h = occurs_free_in x g h
  occurs_free_in x (Cond.and g k) h = let p = or_false (has_binder_in g) (has_binder_in k) h in ap₂ (λ s t. s || t) (occurs_free_in x g p.0) (occurs_free_in x k p.1)
  occurs_free_in x (Cond.or g k) h = let p = or_false (has_binder_in g) (has_binder_in k) h in ap₂ (λ s t. s || t) (occurs_free_in x g p.0) (occurs_free_in x k p.1)
  occurs_free_in x (Cond.same g k) h = let p = or_false (has_binder_in g) (has_binder_in k) h in ap₂ (λ s t. s || t) (occurs_free_in x g p.0) (occurs_free_in x k p.1)
  occurs_free_in x (Cond.le a b) h = let p = or_false (has_binder a) (has_binder b) h in ap₂ (λ s t. s || t) (occurs_free x a p.0) (occurs_free x b p.1)
  occurs_free_in x (Cond.lt a b) h = let p = or_false (has_binder a) (has_binder b) h in ap₂ (λ s t. s || t) (occurs_free x a p.0) (occurs_free x b p.1)
  occurs_free_in x (Cond.equal a b) h = let p = or_false (has_binder a) (has_binder b) h in ap₂ (λ s t. s || t) (occurs_free x a p.0) (occurs_free x b p.1)
  occurs_free_in x (Cond.ite g k l) h = let p = or_false (has_binder_in g) (has_binder_in k || has_binder_in l) h in let q = or_false (has_binder_in k) (has_binder_in l) p.1 in ap₂ (λ s t. s || t) (occurs_free_in x g p.0) (ap₂ (λ s t. s || t) (occurs_free_in x k q.0) (occurs_free_in x l q.1))
