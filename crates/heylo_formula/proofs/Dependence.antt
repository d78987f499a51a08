-- What the value of a formula depends on.
use Rattle.std.proofs.Common.{◌≡◌, ℕ, refl, sym, ap, ap₂, ◌∙◌, arith, Bool, true, false, not, cond, ◌==◌, ◌||◌, ◌&&◌}
use mathlib.Core.Path.{fun_ext}
use Rattle.heyvl_num.specs.Value.{zeroᵛ, oneᵛ, leqᵛ, ◌+ᵛ◌, ◌*ᵛ◌}
use Rattle.heyvl_num.specs.Value.Value.{finite, infinite}
use Rattle.heyvl_num.specs.ValueOperators.{minᵛ, maxᵛ, impliesᵛ, coimpliesᵛ, monusᵛ}
use Rattle.heylo_formula.specs.Operators.{differenceᵛ, validateᵛ, covalidateᵛ, lessᵛ, equalᵛ, agree}
use Rattle.heylo_formula.specs.State.{Env, put, fit, truth_of, number_of}
use Rattle.heylo_formula.specs.Choices.{Choices, here, left, right}
use Rattle.heylo_formula.specs.Formula.{Form, Cond}
use Rattle.heylo_formula.specs.Variables.{is_free, is_free_in, occurs, occurs_in}
use Rattle.heylo_formula.specs.Meaning.{value, holds}
use Rattle.heylo_formula.specs.Binders.{has_binder, has_binder_in}
use Rattle.heylo_formula.specs.declared.values.Val.{Val}

pub or_false : (a b : Bool) → (a || b) ≡ false → (a ≡ false) × (b ≡ false)
or_false true b h = absurd (cc)
or_false false b h = (refl, h)

or_left : (a b : Bool) → a ≡ true → (a || b) ≡ true
or_left a b h = rw h

or_right : (a b : Bool) → b ≡ true → (a || b) ≡ true
or_right true b h = refl
or_right false b h = h

pub neither : {a b : Bool} → a ≡ false → b ≡ false → (a || b) ≡ false
neither h k = rw (h, k)

pub clash : (b : Bool) → b ≡ true → b ≡ false → ⊥
clash b h k = let e : true ≡ false = sym h ∙ k in cc

pub put_again : (x y : ℕ) (v w : Val) (r : Env) → (x == y) ≡ true → put y v (put x w r) ≡ put y v r
put_again x y v w r e = fun_ext (λ z. go z (y == z) refl)
  where
    go : (z : ℕ) (t : Bool) → (y == z) ≡ t → cond t v (cond (x == z) w (r z)) ≡ cond t v (r z)
    go z true f = refl
    go z false f = let k : (x == z) ≡ false = grind arith in rw k

both_same : (x y z : ℕ) → (x == z) ≡ true → (y == z) ≡ true → (x == y) ≡ false → ⊥
both_same x y z e f g = grind arith

pub put_commute : (x y : ℕ) (v w : Val) (r : Env) → (x == y) ≡ false → put x w (put y v r) ≡ put y v (put x w r)
put_commute x y v w r e = fun_ext (λ z. go z (x == z) (y == z) refl refl)
  where
    go : (z : ℕ) (s t : Bool) → (x == z) ≡ s → (y == z) ≡ t → cond s w (cond t v (r z)) ≡ cond t v (cond s w (r z))
    go z true true f g = absurd (both_same x y z f g e)
    go z true false f g = refl
    go z false true f g = refl
    go z false false f g = refl

pub three : {A : Type 0} {b b' : Bool} {x x' y y' : A} → b ≡ b' → x ≡ x' → y ≡ y' → cond b x y ≡ cond b' x' y'
three e f g = ap₂ (λ (p : _ × _) b. cond b p.0 p.1) (ap₂ (λ x y. (x, y)) f g) e

same_self : (w : ℕ) → (w == w) ≡ true
same_self w = grind arith

kept_on : (w y : ℕ) (v : Val) (s s' : Env) (a : Form) → (cond (y == w) false (is_free y a) ≡ true → s y ≡ s' y) → is_free y a ≡ true → put w v s y ≡ put w v s' y
kept_on w y v s s' a e k = go (w == y) refl
  where
    go : (t : Bool) → (w == y) ≡ t → cond t v (s y) ≡ cond t v (s' y)
    go true q = refl
    go false q = let p : (y == w) ≡ false = grind arith in e (rw p k)

-- Environments that agree on the free variables.
mutual
  pub same_on : (f : Form) (s s' : Env) (c : Choices) → ((y : ℕ) → is_free y f ≡ true → s y ≡ s' y) → value f s c ≡ value f s' c
  same_on (Form.number v) s s' c e = refl
  same_on (Form.variable w) s s' c e = ap (λ v. finite (number_of v)) (e w (same_self w))
  same_on (Form.sum a b) s s' c e = ap₂ (λ p q. p +ᵛ q) (same_on a s s' (left c) (λ y k0. e y (or_left (is_free y a) (is_free y b) k0))) (same_on b s s' (right c) (λ y k0. e y (or_right (is_free y a) (is_free y b) k0)))
  same_on (Form.difference a b) s s' c e = ap₂ (λ p q. differenceᵛ p q) (same_on a s s' (left c) (λ y k0. e y (or_left (is_free y a) (is_free y b) k0))) (same_on b s s' (right c) (λ y k0. e y (or_right (is_free y a) (is_free y b) k0)))
  same_on (Form.cut a b) s s' c e = ap₂ (λ p q. monusᵛ p q) (same_on a s s' (left c) (λ y k0. e y (or_left (is_free y a) (is_free y b) k0))) (same_on b s s' (right c) (λ y k0. e y (or_right (is_free y a) (is_free y b) k0)))
  same_on (Form.scale w a) s s' c e = ap (λ p. finite w *ᵛ p) (same_on a s s' c e)
  same_on (Form.product a b span) s s' c e = ap₂ (λ p q. p *ᵛ q) (same_on a s s' (left c) (λ y k0. e y (or_left (is_free y a) (is_free y b) k0))) (same_on b s s' (right c) (λ y k0. e y (or_right (is_free y a) (is_free y b) k0)))
  same_on (Form.min a b) s s' c e = ap₂ (λ p q. minᵛ p q) (same_on a s s' (left c) (λ y k0. e y (or_left (is_free y a) (is_free y b) k0))) (same_on b s s' (right c) (λ y k0. e y (or_right (is_free y a) (is_free y b) k0)))
  same_on (Form.max a b) s s' c e = ap₂ (λ p q. maxᵛ p q) (same_on a s s' (left c) (λ y k0. e y (or_left (is_free y a) (is_free y b) k0))) (same_on b s s' (right c) (λ y k0. e y (or_right (is_free y a) (is_free y b) k0)))
  same_on (Form.imply a b) s s' c e = ap₂ (λ p q. impliesᵛ p q) (same_on a s s' (left c) (λ y k0. e y (or_left (is_free y a) (is_free y b) k0))) (same_on b s s' (right c) (λ y k0. e y (or_right (is_free y a) (is_free y b) k0)))
  same_on (Form.co_imply a b) s s' c e = ap₂ (λ p q. coimpliesᵛ p q) (same_on a s s' (left c) (λ y k0. e y (or_left (is_free y a) (is_free y b) k0))) (same_on b s s' (right c) (λ y k0. e y (or_right (is_free y a) (is_free y b) k0)))
  same_on (Form.validate a) s s' c e = ap (λ p. validateᵛ p) (same_on a s s' c e)
  same_on (Form.co_validate a) s s' c e = ap (λ p. covalidateᵛ p) (same_on a s s' c e)
  same_on (Form.embed g) s s' c e = ap (λ p. cond p infinite zeroᵛ) (same_on_in g s s' c e)
  same_on (Form.iverson g) s s' c e = ap (λ p. cond p oneᵛ zeroᵛ) (same_on_in g s s' c e)
  same_on (Form.select g a b) s s' c e = three (same_on_in g s s' (left c) (λ y k0. e y (or_left (is_free_in y g) ((is_free y a) || (is_free y b)) k0))) (same_on a s s' (right c) (λ y k0. e y (or_right (is_free_in y g) ((is_free y a) || (is_free y b)) (or_left (is_free y a) (is_free y b) k0)))) (same_on b s s' (right c) (λ y k0. e y (or_right (is_free_in y g) ((is_free y a) || (is_free y b)) (or_right (is_free y a) (is_free y b) k0))))
  same_on (Form.bind up w name ty a) s s' c e = same_on a _ _ (left c) (λ y k0. kept_on w y (fit ty (here c)) s s' a (e y) k0)

  pub same_on_in : (g : Cond) (s s' : Env) (c : Choices) → ((y : ℕ) → is_free_in y g ≡ true → s y ≡ s' y) → holds g s c ≡ holds g s' c
  same_on_in (Cond.constant b) s s' c e = refl
  same_on_in (Cond.flag w) s s' c e = ap truth_of (e w (same_self w))
  same_on_in (Cond.not g) s s' c e = ap (λ p. not p) (same_on_in g s s' c e)
  same_on_in (Cond.and g h) s s' c e = ap₂ (λ p q. p && q) (same_on_in g s s' (left c) (λ y k0. e y (or_left (is_free_in y g) (is_free_in y h) k0))) (same_on_in h s s' (right c) (λ y k0. e y (or_right (is_free_in y g) (is_free_in y h) k0)))
  same_on_in (Cond.or g h) s s' c e = ap₂ (λ p q. p || q) (same_on_in g s s' (left c) (λ y k0. e y (or_left (is_free_in y g) (is_free_in y h) k0))) (same_on_in h s s' (right c) (λ y k0. e y (or_right (is_free_in y g) (is_free_in y h) k0)))
  same_on_in (Cond.same g h) s s' c e = ap₂ (λ p q. agree p q) (same_on_in g s s' (left c) (λ y k0. e y (or_left (is_free_in y g) (is_free_in y h) k0))) (same_on_in h s s' (right c) (λ y k0. e y (or_right (is_free_in y g) (is_free_in y h) k0)))
  same_on_in (Cond.le a b) s s' c e = ap₂ (λ p q. leqᵛ p q) (same_on a s s' (left c) (λ y k0. e y (or_left (is_free y a) (is_free y b) k0))) (same_on b s s' (right c) (λ y k0. e y (or_right (is_free y a) (is_free y b) k0)))
  same_on_in (Cond.lt a b) s s' c e = ap₂ (λ p q. lessᵛ p q) (same_on a s s' (left c) (λ y k0. e y (or_left (is_free y a) (is_free y b) k0))) (same_on b s s' (right c) (λ y k0. e y (or_right (is_free y a) (is_free y b) k0)))
  same_on_in (Cond.equal a b) s s' c e = ap₂ (λ p q. equalᵛ p q) (same_on a s s' (left c) (λ y k0. e y (or_left (is_free y a) (is_free y b) k0))) (same_on b s s' (right c) (λ y k0. e y (or_right (is_free y a) (is_free y b) k0)))
  same_on_in (Cond.ite g h k) s s' c e = three (same_on_in g s s' (left c) (λ y k0. e y (or_left (is_free_in y g) ((is_free_in y h) || (is_free_in y k)) k0))) (same_on_in h s s' (right c) (λ y k0. e y (or_right (is_free_in y g) ((is_free_in y h) || (is_free_in y k)) (or_left (is_free_in y h) (is_free_in y k) k0)))) (same_on_in k s s' (right c) (λ y k0. e y (or_right (is_free_in y g) ((is_free_in y h) || (is_free_in y k)) (or_right (is_free_in y h) (is_free_in y k) k0))))

not_put : (x y : ℕ) (v : Val) (s : Env) (b : Bool) → b ≡ false → (x ≡ y → b ≡ true) → put x v s y ≡ s y
not_put x y v s b n h = go (x == y) refl
  where
    go : (t : Bool) → (x == y) ≡ t → cond t v (s y) ≡ s y
    go true q = let p : x ≡ y = grind arith in absurd (clash b (h p) n)
    go false q = refl

pub unfree : (x : ℕ) (f : Form) (v : Val) (s : Env) (c : Choices) → is_free x f ≡ false → value f (put x v s) c ≡ value f s c
unfree x f v s c n = same_on f (put x v s) s c (λ y k. not_put x y v s (is_free x f) n (λ p. ap (λ z. is_free z f) p ∙ k))

pub unfree_in : (x : ℕ) (g : Cond) (v : Val) (s : Env) (c : Choices) → is_free_in x g ≡ false → holds g (put x v s) c ≡ holds g s c
unfree_in x g v s c n = same_on_in g (put x v s) s c (λ y k. not_put x y v s (is_free_in x g) n (λ p. ap (λ z. is_free_in z g) p ∙ k))

-- A variable that does not occur is not free.
mutual
  pub unused_free : (x : ℕ) (f : Form) → occurs x f ≡ false → is_free x f ≡ false
  unused_free x (Form.number v) h0 = refl
  unused_free x (Form.variable w) h0 = h0
  unused_free x (Form.sum a b) h0 = neither (unused_free x a (or_false (occurs x a) (occurs x b) h0).0) (unused_free x b (or_false (occurs x a) (occurs x b) h0).1)
  unused_free x (Form.difference a b) h0 = neither (unused_free x a (or_false (occurs x a) (occurs x b) h0).0) (unused_free x b (or_false (occurs x a) (occurs x b) h0).1)
  unused_free x (Form.cut a b) h0 = neither (unused_free x a (or_false (occurs x a) (occurs x b) h0).0) (unused_free x b (or_false (occurs x a) (occurs x b) h0).1)
  unused_free x (Form.scale w a) h0 = unused_free x a h0
  unused_free x (Form.product a b span) h0 = neither (unused_free x a (or_false (occurs x a) (occurs x b) h0).0) (unused_free x b (or_false (occurs x a) (occurs x b) h0).1)
  unused_free x (Form.min a b) h0 = neither (unused_free x a (or_false (occurs x a) (occurs x b) h0).0) (unused_free x b (or_false (occurs x a) (occurs x b) h0).1)
  unused_free x (Form.max a b) h0 = neither (unused_free x a (or_false (occurs x a) (occurs x b) h0).0) (unused_free x b (or_false (occurs x a) (occurs x b) h0).1)
  unused_free x (Form.imply a b) h0 = neither (unused_free x a (or_false (occurs x a) (occurs x b) h0).0) (unused_free x b (or_false (occurs x a) (occurs x b) h0).1)
  unused_free x (Form.co_imply a b) h0 = neither (unused_free x a (or_false (occurs x a) (occurs x b) h0).0) (unused_free x b (or_false (occurs x a) (occurs x b) h0).1)
  unused_free x (Form.validate a) h0 = unused_free x a h0
  unused_free x (Form.co_validate a) h0 = unused_free x a h0
  unused_free x (Form.embed g) h0 = unused_free_in x g h0
  unused_free x (Form.iverson g) h0 = unused_free_in x g h0
  unused_free x (Form.select g a b) h0 = neither (unused_free_in x g (or_false (occurs_in x g) ((occurs x a) || (occurs x b)) h0).0) (neither (unused_free x a (or_false (occurs x a) (occurs x b) (or_false (occurs_in x g) ((occurs x a) || (occurs x b)) h0).1).0) (unused_free x b (or_false (occurs x a) (occurs x b) (or_false (occurs_in x g) ((occurs x a) || (occurs x b)) h0).1).1))
  unused_free x (Form.bind up w name ty a) h0 = rw (or_false (x == w) (occurs x a) h0).0 (unused_free x a (or_false (x == w) (occurs x a) h0).1)

  pub unused_free_in : (x : ℕ) (g : Cond) → occurs_in x g ≡ false → is_free_in x g ≡ false
  unused_free_in x (Cond.constant b) h0 = refl
  unused_free_in x (Cond.flag w) h0 = h0
  unused_free_in x (Cond.not g) h0 = unused_free_in x g h0
  unused_free_in x (Cond.and g h) h0 = neither (unused_free_in x g (or_false (occurs_in x g) (occurs_in x h) h0).0) (unused_free_in x h (or_false (occurs_in x g) (occurs_in x h) h0).1)
  unused_free_in x (Cond.or g h) h0 = neither (unused_free_in x g (or_false (occurs_in x g) (occurs_in x h) h0).0) (unused_free_in x h (or_false (occurs_in x g) (occurs_in x h) h0).1)
  unused_free_in x (Cond.same g h) h0 = neither (unused_free_in x g (or_false (occurs_in x g) (occurs_in x h) h0).0) (unused_free_in x h (or_false (occurs_in x g) (occurs_in x h) h0).1)
  unused_free_in x (Cond.le a b) h0 = neither (unused_free x a (or_false (occurs x a) (occurs x b) h0).0) (unused_free x b (or_false (occurs x a) (occurs x b) h0).1)
  unused_free_in x (Cond.lt a b) h0 = neither (unused_free x a (or_false (occurs x a) (occurs x b) h0).0) (unused_free x b (or_false (occurs x a) (occurs x b) h0).1)
  unused_free_in x (Cond.equal a b) h0 = neither (unused_free x a (or_false (occurs x a) (occurs x b) h0).0) (unused_free x b (or_false (occurs x a) (occurs x b) h0).1)
  unused_free_in x (Cond.ite g h k) h0 = neither (unused_free_in x g (or_false (occurs_in x g) ((occurs_in x h) || (occurs_in x k)) h0).0) (neither (unused_free_in x h (or_false (occurs_in x h) (occurs_in x k) (or_false (occurs_in x g) ((occurs_in x h) || (occurs_in x k)) h0).1).0) (unused_free_in x k (or_false (occurs_in x h) (occurs_in x k) (or_false (occurs_in x g) ((occurs_in x h) || (occurs_in x k)) h0).1).1))

-- Without binders, the value is the same for all choices.
mutual
  pub unchosen : (f : Form) (s : Env) (c : Choices) → has_binder f ≡ false → value f s c ≡ value f s Choices.stop
  unchosen (Form.number v) s c h0 = refl
  unchosen (Form.variable w) s c h0 = refl
  unchosen (Form.sum a b) s c h0 = ap₂ (λ p q. p +ᵛ q) (unchosen a s (left c) (or_false (has_binder a) (has_binder b) h0).0) (unchosen b s (right c) (or_false (has_binder a) (has_binder b) h0).1)
  unchosen (Form.difference a b) s c h0 = ap₂ (λ p q. differenceᵛ p q) (unchosen a s (left c) (or_false (has_binder a) (has_binder b) h0).0) (unchosen b s (right c) (or_false (has_binder a) (has_binder b) h0).1)
  unchosen (Form.cut a b) s c h0 = ap₂ (λ p q. monusᵛ p q) (unchosen a s (left c) (or_false (has_binder a) (has_binder b) h0).0) (unchosen b s (right c) (or_false (has_binder a) (has_binder b) h0).1)
  unchosen (Form.scale w a) s c h0 = ap (λ p. finite w *ᵛ p) (unchosen a s c h0)
  unchosen (Form.product a b span) s c h0 = ap₂ (λ p q. p *ᵛ q) (unchosen a s (left c) (or_false (has_binder a) (has_binder b) h0).0) (unchosen b s (right c) (or_false (has_binder a) (has_binder b) h0).1)
  unchosen (Form.min a b) s c h0 = ap₂ (λ p q. minᵛ p q) (unchosen a s (left c) (or_false (has_binder a) (has_binder b) h0).0) (unchosen b s (right c) (or_false (has_binder a) (has_binder b) h0).1)
  unchosen (Form.max a b) s c h0 = ap₂ (λ p q. maxᵛ p q) (unchosen a s (left c) (or_false (has_binder a) (has_binder b) h0).0) (unchosen b s (right c) (or_false (has_binder a) (has_binder b) h0).1)
  unchosen (Form.imply a b) s c h0 = ap₂ (λ p q. impliesᵛ p q) (unchosen a s (left c) (or_false (has_binder a) (has_binder b) h0).0) (unchosen b s (right c) (or_false (has_binder a) (has_binder b) h0).1)
  unchosen (Form.co_imply a b) s c h0 = ap₂ (λ p q. coimpliesᵛ p q) (unchosen a s (left c) (or_false (has_binder a) (has_binder b) h0).0) (unchosen b s (right c) (or_false (has_binder a) (has_binder b) h0).1)
  unchosen (Form.validate a) s c h0 = ap (λ p. validateᵛ p) (unchosen a s c h0)
  unchosen (Form.co_validate a) s c h0 = ap (λ p. covalidateᵛ p) (unchosen a s c h0)
  unchosen (Form.embed g) s c h0 = ap (λ p. cond p infinite zeroᵛ) (unchosen_in g s c h0)
  unchosen (Form.iverson g) s c h0 = ap (λ p. cond p oneᵛ zeroᵛ) (unchosen_in g s c h0)
  unchosen (Form.select g a b) s c h0 = three (unchosen_in g s (left c) (or_false (has_binder_in g) ((has_binder a) || (has_binder b)) h0).0) (unchosen a s (right c) (or_false (has_binder a) (has_binder b) (or_false (has_binder_in g) ((has_binder a) || (has_binder b)) h0).1).0) (unchosen b s (right c) (or_false (has_binder a) (has_binder b) (or_false (has_binder_in g) ((has_binder a) || (has_binder b)) h0).1).1)
  unchosen (Form.bind up w name ty a) s c h0 = absurd (cc)

  pub unchosen_in : (g : Cond) (s : Env) (c : Choices) → has_binder_in g ≡ false → holds g s c ≡ holds g s Choices.stop
  unchosen_in (Cond.constant b) s c h0 = refl
  unchosen_in (Cond.flag w) s c h0 = refl
  unchosen_in (Cond.not g) s c h0 = ap (λ p. not p) (unchosen_in g s c h0)
  unchosen_in (Cond.and g h) s c h0 = ap₂ (λ p q. p && q) (unchosen_in g s (left c) (or_false (has_binder_in g) (has_binder_in h) h0).0) (unchosen_in h s (right c) (or_false (has_binder_in g) (has_binder_in h) h0).1)
  unchosen_in (Cond.or g h) s c h0 = ap₂ (λ p q. p || q) (unchosen_in g s (left c) (or_false (has_binder_in g) (has_binder_in h) h0).0) (unchosen_in h s (right c) (or_false (has_binder_in g) (has_binder_in h) h0).1)
  unchosen_in (Cond.same g h) s c h0 = ap₂ (λ p q. agree p q) (unchosen_in g s (left c) (or_false (has_binder_in g) (has_binder_in h) h0).0) (unchosen_in h s (right c) (or_false (has_binder_in g) (has_binder_in h) h0).1)
  unchosen_in (Cond.le a b) s c h0 = ap₂ (λ p q. leqᵛ p q) (unchosen a s (left c) (or_false (has_binder a) (has_binder b) h0).0) (unchosen b s (right c) (or_false (has_binder a) (has_binder b) h0).1)
  unchosen_in (Cond.lt a b) s c h0 = ap₂ (λ p q. lessᵛ p q) (unchosen a s (left c) (or_false (has_binder a) (has_binder b) h0).0) (unchosen b s (right c) (or_false (has_binder a) (has_binder b) h0).1)
  unchosen_in (Cond.equal a b) s c h0 = ap₂ (λ p q. equalᵛ p q) (unchosen a s (left c) (or_false (has_binder a) (has_binder b) h0).0) (unchosen b s (right c) (or_false (has_binder a) (has_binder b) h0).1)
  unchosen_in (Cond.ite g h k) s c h0 = three (unchosen_in g s (left c) (or_false (has_binder_in g) ((has_binder_in h) || (has_binder_in k)) h0).0) (unchosen_in h s (right c) (or_false (has_binder_in h) (has_binder_in k) (or_false (has_binder_in g) ((has_binder_in h) || (has_binder_in k)) h0).1).0) (unchosen_in k s (right c) (or_false (has_binder_in h) (has_binder_in k) (or_false (has_binder_in g) ((has_binder_in h) || (has_binder_in k)) h0).1).1)
