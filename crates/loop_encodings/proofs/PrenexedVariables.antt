-- A number below those of the binders occurs in the prenexed form only if a free variable has it.
use Rattle.std.proofs.Common.{◌≡◌, ◌<◌, ◌+◌, ℕ, refl, sym, subst, arith, Bool, true, false, cond, ◌==◌, ◌||◌, length}
use Prim.Native.Nat.{suc}
use Rattle.heylo_formula.specs.Formula.{Form, Cond}
use Rattle.heylo_formula.specs.BinderNames.{binders, binders_in}
use Rattle.heylo_formula.specs.Variables.{is_free, is_free_in, occurs, occurs_in}
use Rattle.heylo_formula.proofs.exported.Agreement.{clash, neither}
use Rattle.vp_generator.specs.PrenexedForms.{Numbering, prenexed, renumbered, unbound, unbound_in}

or_left : (a b : Bool) → a ≡ true → (a || b) ≡ true
or_left a b h = rw h

or_right : (a b : Bool) → b ≡ true → (a || b) ≡ true
or_right true b h = refl
or_right false b h = h

inner : (x y z n : ℕ) (m : Numbering) (free : Bool) → x < n → (cond (y == z) false free ≡ true → (x == m y) ≡ false) → free ≡ true → (x == renumbered z n m y) ≡ false
inner x y z n m free l h i = go (z == y) refl
  where
    turned : (z == y) ≡ false → (c : Bool) → (y == z) ≡ c → c ≡ false
    turned q true r = absurd (grind (arith, q, r))
    turned q false r = refl

    below : (c : Bool) → (x == n) ≡ c → c ≡ false
    below true r = let p : x ≡ n = grind arith in absurd (omega (arith, p, l))
    below false r = refl

    go : (b : Bool) → (z == y) ≡ b → (x == cond b n (m y)) ≡ false
    go true q = below (x == n) refl
    go false q = h (subst (λ c. cond c false free ≡ true) (sym (turned q (y == z) refl)) i)

mutual
  pub unbound_lacks : (f : Form) (m : Numbering) (n x : ℕ) → x < n → ((y : ℕ) → is_free y f ≡ true → (x == m y) ≡ false) → occurs x (unbound m n f) ≡ false
  unbound_lacks (Form.number v) m n x l h = refl
  unbound_lacks (Form.variable y) m n x l h = h y (grind arith)
  unbound_lacks (Form.sum a b) m n x l h = neither (unbound_lacks a m n x l (λ y i. h y (or_left (is_free y a) (is_free y b) i))) (unbound_lacks b m (n + length (binders a)) x (omega (arith, l)) (λ y i. h y (or_right (is_free y a) (is_free y b) i)))
  unbound_lacks (Form.difference a b) m n x l h = neither (unbound_lacks a m n x l (λ y i. h y (or_left (is_free y a) (is_free y b) i))) (unbound_lacks b m (n + length (binders a)) x (omega (arith, l)) (λ y i. h y (or_right (is_free y a) (is_free y b) i)))
  unbound_lacks (Form.cut a b) m n x l h = neither (unbound_lacks a m n x l (λ y i. h y (or_left (is_free y a) (is_free y b) i))) (unbound_lacks b m (n + length (binders a)) x (omega (arith, l)) (λ y i. h y (or_right (is_free y a) (is_free y b) i)))
  unbound_lacks (Form.min a b) m n x l h = neither (unbound_lacks a m n x l (λ y i. h y (or_left (is_free y a) (is_free y b) i))) (unbound_lacks b m (n + length (binders a)) x (omega (arith, l)) (λ y i. h y (or_right (is_free y a) (is_free y b) i)))
  unbound_lacks (Form.max a b) m n x l h = neither (unbound_lacks a m n x l (λ y i. h y (or_left (is_free y a) (is_free y b) i))) (unbound_lacks b m (n + length (binders a)) x (omega (arith, l)) (λ y i. h y (or_right (is_free y a) (is_free y b) i)))
  unbound_lacks (Form.imply a b) m n x l h = neither (unbound_lacks a m n x l (λ y i. h y (or_left (is_free y a) (is_free y b) i))) (unbound_lacks b m (n + length (binders a)) x (omega (arith, l)) (λ y i. h y (or_right (is_free y a) (is_free y b) i)))
  unbound_lacks (Form.co_imply a b) m n x l h = neither (unbound_lacks a m n x l (λ y i. h y (or_left (is_free y a) (is_free y b) i))) (unbound_lacks b m (n + length (binders a)) x (omega (arith, l)) (λ y i. h y (or_right (is_free y a) (is_free y b) i)))
  unbound_lacks (Form.product a b span) m n x l h = neither (unbound_lacks a m n x l (λ y i. h y (or_left (is_free y a) (is_free y b) i))) (unbound_lacks b m (n + length (binders a)) x (omega (arith, l)) (λ y i. h y (or_right (is_free y a) (is_free y b) i)))
  unbound_lacks (Form.scale w a) m n x l h = unbound_lacks a m n x l h
  unbound_lacks (Form.validate a) m n x l h = unbound_lacks a m n x l h
  unbound_lacks (Form.co_validate a) m n x l h = unbound_lacks a m n x l h
  unbound_lacks (Form.embed g) m n x l h = unbound_lacks_in g m n x l h
  unbound_lacks (Form.iverson g) m n x l h = unbound_lacks_in g m n x l h
  unbound_lacks (Form.select g a b) m n x l h = neither (unbound_lacks_in g m n x l (λ y i. h y (or_left (is_free_in y g) (is_free y a || is_free y b) i))) (neither (unbound_lacks a m (n + length (binders_in g)) x (omega (arith, l)) (λ y i. h y (or_right (is_free_in y g) (is_free y a || is_free y b) (or_left (is_free y a) (is_free y b) i)))) (unbound_lacks b m (n + length (binders_in g) + length (binders a)) x (omega (arith, l)) (λ y i. h y (or_right (is_free_in y g) (is_free y a || is_free y b) (or_right (is_free y a) (is_free y b) i)))))
  unbound_lacks (Form.bind up z name ty a) m n x l h = unbound_lacks a (renumbered z n m) (suc n) x (omega (arith, l)) (λ y i. inner x y z n m (is_free y a) l (h y) i)

  pub unbound_lacks_in : (g : Cond) (m : Numbering) (n x : ℕ) → x < n → ((y : ℕ) → is_free_in y g ≡ true → (x == m y) ≡ false) → occurs_in x (unbound_in m n g) ≡ false
  unbound_lacks_in (Cond.constant b) m n x l h = refl
  unbound_lacks_in (Cond.flag y) m n x l h = h y (grind arith)
  unbound_lacks_in (Cond.not g) m n x l h = unbound_lacks_in g m n x l h
  unbound_lacks_in (Cond.and g k) m n x l h = neither (unbound_lacks_in g m n x l (λ y i. h y (or_left (is_free_in y g) (is_free_in y k) i))) (unbound_lacks_in k m (n + length (binders_in g)) x (omega (arith, l)) (λ y i. h y (or_right (is_free_in y g) (is_free_in y k) i)))
  unbound_lacks_in (Cond.or g k) m n x l h = neither (unbound_lacks_in g m n x l (λ y i. h y (or_left (is_free_in y g) (is_free_in y k) i))) (unbound_lacks_in k m (n + length (binders_in g)) x (omega (arith, l)) (λ y i. h y (or_right (is_free_in y g) (is_free_in y k) i)))
  unbound_lacks_in (Cond.same g k) m n x l h = neither (unbound_lacks_in g m n x l (λ y i. h y (or_left (is_free_in y g) (is_free_in y k) i))) (unbound_lacks_in k m (n + length (binders_in g)) x (omega (arith, l)) (λ y i. h y (or_right (is_free_in y g) (is_free_in y k) i)))
  unbound_lacks_in (Cond.le a b) m n x l h = neither (unbound_lacks a m n x l (λ y i. h y (or_left (is_free y a) (is_free y b) i))) (unbound_lacks b m (n + length (binders a)) x (omega (arith, l)) (λ y i. h y (or_right (is_free y a) (is_free y b) i)))
  unbound_lacks_in (Cond.lt a b) m n x l h = neither (unbound_lacks a m n x l (λ y i. h y (or_left (is_free y a) (is_free y b) i))) (unbound_lacks b m (n + length (binders a)) x (omega (arith, l)) (λ y i. h y (or_right (is_free y a) (is_free y b) i)))
  unbound_lacks_in (Cond.equal a b) m n x l h = neither (unbound_lacks a m n x l (λ y i. h y (or_left (is_free y a) (is_free y b) i))) (unbound_lacks b m (n + length (binders a)) x (omega (arith, l)) (λ y i. h y (or_right (is_free y a) (is_free y b) i)))
  unbound_lacks_in (Cond.ite c g k) m n x l h = neither (unbound_lacks_in c m n x l (λ y i. h y (or_left (is_free_in y c) (is_free_in y g || is_free_in y k) i))) (neither (unbound_lacks_in g m (n + length (binders_in c)) x (omega (arith, l)) (λ y i. h y (or_right (is_free_in y c) (is_free_in y g || is_free_in y k) (or_left (is_free_in y g) (is_free_in y k) i)))) (unbound_lacks_in k m (n + length (binders_in c) + length (binders_in g)) x (omega (arith, l)) (λ y i. h y (or_right (is_free_in y c) (is_free_in y g || is_free_in y k) (or_right (is_free_in y g) (is_free_in y k) i)))))

pub prenexed_lacks : (n x : ℕ) (f : Form) → x < n → is_free x f ≡ false → occurs x (prenexed n f) ≡ false
prenexed_lacks n x f l h = unbound_lacks f (λ y. y) n x l (λ y i. other y i (x == y) refl)
  where
    other : (y : ℕ) → is_free y f ≡ true → (b : Bool) → (x == y) ≡ b → b ≡ false
    other y i true e = let p : x ≡ y = grind arith in absurd (clash (is_free y f) i (subst (λ z. is_free z f ≡ false) p h))
    other y i false e = refl
