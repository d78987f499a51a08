-- Renaming a variable to itself does not change a tree.
use Rattle.std.proofs.Common.{◌≡◌, ℕ, refl, sym, ap, ap₂, ◌∙◌, arith, Bool, true, false, cond, ◌==◌}
use Rattle.std.specs.Prelude.{Result, Ok, Err, IfOk, if◌then◌else◌}
use Rattle.std.specs.declared.alloc.AllocError.{AllocError}
use Rattle.std.specs.declared.alloc.Global.{Global}
use Rattle.std.specs.declared.boxed.Box.{Box}
use Rattle.heylo_formula.specs.declared.types.Ty.{Ty}
use Rattle.heylo_formula.specs.declared.forms.Form as F
use Rattle.heylo_formula.specs.declared.forms.Cond as C
use Rattle.heylo_formula.specs.PlainTrees.{form_of, cond_of}
use Rattle.heylo_formula.specs.Formula.{Form, Cond}
use Rattle.heylo_formula.specs.Substitution.{renamed, renamed_in}
use Rattle.heylo_formula.proofs.Mirrors.{bind_form}

same_variable : (z w : ℕ) → cond (z == w) (Form.variable z) (Form.variable w) ≡ Form.variable w
same_variable z w = go (z == w) refl
  where
    go : (b : Bool) → (z == w) ≡ b → cond b (Form.variable z) (Form.variable w) ≡ Form.variable w
    go true q = let e : z ≡ w = grind arith in ap (λ x. Form.variable x) e
    go false q = refl

same_flag : (z w : ℕ) → cond (z == w) (Cond.flag z) (Cond.flag w) ≡ Cond.flag w
same_flag z w = go (z == w) refl
  where
    go : (b : Bool) → (z == w) ≡ b → cond b (Cond.flag z) (Cond.flag w) ≡ Cond.flag w
    go true q = let e : z ≡ w = grind arith in ap (λ x. Cond.flag x) e
    go false q = refl

same_body : (b : Bool) (a r : Form) → r ≡ a → cond b a r ≡ a
same_body true a r h = refl
same_body false a r h = h

mutual
  pub renamed_same : (z : ℕ) (f : Form) → renamed z z f ≡ f
  renamed_same z (Form.number v) = refl
  renamed_same z (Form.variable w) = same_variable z w
  renamed_same z (Form.sum a b) = ap₂ (λ p q. Form.sum p q) (renamed_same z a) (renamed_same z b)
  renamed_same z (Form.difference a b) = ap₂ (λ p q. Form.difference p q) (renamed_same z a) (renamed_same z b)
  renamed_same z (Form.cut a b) = ap₂ (λ p q. Form.cut p q) (renamed_same z a) (renamed_same z b)
  renamed_same z (Form.scale w a) = ap (λ p. Form.scale w p) (renamed_same z a)
  renamed_same z (Form.product a b span) = ap₂ (λ p q. Form.product p q span) (renamed_same z a) (renamed_same z b)
  renamed_same z (Form.min a b) = ap₂ (λ p q. Form.min p q) (renamed_same z a) (renamed_same z b)
  renamed_same z (Form.max a b) = ap₂ (λ p q. Form.max p q) (renamed_same z a) (renamed_same z b)
  renamed_same z (Form.imply a b) = ap₂ (λ p q. Form.imply p q) (renamed_same z a) (renamed_same z b)
  renamed_same z (Form.co_imply a b) = ap₂ (λ p q. Form.co_imply p q) (renamed_same z a) (renamed_same z b)
  renamed_same z (Form.validate a) = ap (λ p. Form.validate p) (renamed_same z a)
  renamed_same z (Form.co_validate a) = ap (λ p. Form.co_validate p) (renamed_same z a)
  renamed_same z (Form.embed g) = ap (λ p. Form.embed p) (renamed_same_in z g)
  renamed_same z (Form.iverson g) = ap (λ p. Form.iverson p) (renamed_same_in z g)
  renamed_same z (Form.select g a b) = ap₂ (λ p (q : Form × Form). Form.select p q.0 q.1) (renamed_same_in z g) (ap₂ (λ p q. (p, q)) (renamed_same z a) (renamed_same z b))
  renamed_same z (Form.bind up w name ty a) = ap (λ p. Form.bind up w name ty p) (same_body (z == w) a (renamed z z a) (renamed_same z a))

  pub renamed_same_in : (z : ℕ) (g : Cond) → renamed_in z z g ≡ g
  renamed_same_in z (Cond.constant b) = refl
  renamed_same_in z (Cond.flag w) = same_flag z w
  renamed_same_in z (Cond.not g) = ap (λ p. Cond.not p) (renamed_same_in z g)
  renamed_same_in z (Cond.and g h) = ap₂ (λ p q. Cond.and p q) (renamed_same_in z g) (renamed_same_in z h)
  renamed_same_in z (Cond.or g h) = ap₂ (λ p q. Cond.or p q) (renamed_same_in z g) (renamed_same_in z h)
  renamed_same_in z (Cond.same g h) = ap₂ (λ p q. Cond.same p q) (renamed_same_in z g) (renamed_same_in z h)
  renamed_same_in z (Cond.le a b) = ap₂ (λ p q. Cond.le p q) (renamed_same z a) (renamed_same z b)
  renamed_same_in z (Cond.lt a b) = ap₂ (λ p q. Cond.lt p q) (renamed_same z a) (renamed_same z b)
  renamed_same_in z (Cond.equal a b) = ap₂ (λ p q. Cond.equal p q) (renamed_same z a) (renamed_same z b)
  renamed_same_in z (Cond.ite g h k) = ap₂ (λ p (q : Cond × Cond). Cond.ite p q.0 q.1) (renamed_same_in z g) (ap₂ (λ p q. (p, q)) (renamed_same_in z h) (renamed_same_in z k))

-- The body of a binder in which the variable is renamed, or renamed to itself if the binder binds
-- it.
pub renamed_under : (y z w : ℕ) (a : Form) → renamed (if y == w then z else y) z a ≡ (if y == w then a else renamed y z a)
renamed_under y z w a = go (y == w)
  where
    go : (b : Bool) → renamed (cond b z y) z a ≡ cond b a (renamed y z a)
    go true = renamed_same z a
    go false = refl

-- The result of renaming a binder.
pub bind_under : (y z : ℕ) (f : F.Form) (up : Bool) (w name : ℕ) (ty : Ty) (a l : Box F.Form Global) (d : F.Form) (n : ℕ) → f ≡ F.Bind up w name ty a → d ≡ a.value → n ≡ (if y == w then z else y) → form_of l.value ≡ renamed n z (form_of d) → form_of (F.Bind up w name ty l) ≡ renamed y z (form_of f)
bind_under y z f up w name ty a l d n e k u h =
    bind_form up w name ty l
    ∙ ap (λ p. Form.bind up w name ty p) (h ∙ ap (λ m. renamed m z (form_of d)) u ∙ renamed_under y z w (form_of d) ∙ ap (λ g. cond (y == w) (form_of g) (renamed y z (form_of g))) k)
    ∙ sym (ap (λ g. renamed y z (form_of g)) e ∙ ap (λ g. renamed y z g) (bind_form up w name ty a))

-- Renaming a variable to itself yields a copy.
pub copied : (f : Form) (r : Result F.Form AllocError) → IfOk r (λ form. form_of form ≡ renamed 0 0 f) → IfOk r (λ form. form_of form ≡ f)
copied f (Ok form) h = h ∙ renamed_same 0 f
copied f (Err e) h = h

pub copied_in : (g : Cond) (r : Result C.Cond AllocError) → IfOk r (λ cond. cond_of cond ≡ renamed_in 0 0 g) → IfOk r (λ cond. cond_of cond ≡ g)
copied_in g (Ok cond) h = h ∙ renamed_same_in 0 g
copied_in g (Err e) h = h

pub copied_boxed : (f : Form) (r : Result (Box F.Form Global) AllocError) → IfOk r (λ boxed. form_of boxed.value ≡ renamed 0 0 f) → IfOk r (λ boxed. form_of boxed.value ≡ f)
copied_boxed f (Ok boxed) h = h ∙ renamed_same 0 f
copied_boxed f (Err e) h = h
