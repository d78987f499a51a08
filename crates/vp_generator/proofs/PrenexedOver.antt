-- The variables of the prenexed form are the numbers of the form's variables and those of its
-- binders.
use Rattle.std.proofs.Common.{◌≡◌, ℕ, ◌<◌, ◌≤◌, ◌+◌, refl, sym, ap, ◌∙◌, subst, arith, Bool, true, false, cond, ◌==◌, ◌||◌, List, ◌++◌}
use Rattle.std.proofs.Math.ListN.{length}
use Rattle.std.proofs.lemmas.List.{length-append}
use Prim.Native.Nat.{suc}
use Rattle.heylo_formula.specs.Formula.{Form, Cond}
use Rattle.heylo_formula.specs.BinderNames.{Binder, binders, binders_in}
use Rattle.heylo_formula.specs.Variables.{is_free, is_free_in, IsOver, IsOverIn}
use Rattle.vp_generator.specs.PrenexedForms.{Numbering, renumbered, unbound, unbound_in}

left_free : (a b : Bool) → a ≡ true → (a || b) ≡ true
left_free true b h = refl
left_free false b h = absurd (cc)

right_free : (a b : Bool) → b ≡ true → (a || b) ≡ true
right_free true b h = refl
right_free false b h = h

pub two : (a b : Bool) (x k : ℕ) → (a ≡ true → x < k) → (b ≡ true → x < k) → (a || b) ≡ true → x < k
two true b x k f g h = f refl
two false b x k f g h = g h

first_below : (xs ys : List Binder) (n k : ℕ) → n + length (xs ++ ys) ≤ k → n + length xs ≤ k
first_below xs ys n k h = let e = length-append xs ys in omega (arith, e, h)

second_below : (xs ys : List Binder) (n k : ℕ) → n + length (xs ++ ys) ≤ k → n + length xs + length ys ≤ k
second_below xs ys n k h = let e = length-append xs ys in omega (arith, e, h)

self_below : (x y k : ℕ) (m : Numbering) → ((z : ℕ) → (z == y) ≡ true → m z < k) → (x == m y) ≡ true → x < k
self_below x y k m f h = let p : x ≡ m y = grind arith in subst (λ z. z < k) (sym p) (f y (grind arith))

inner : (y x n k : ℕ) (m : Numbering) (free : Bool) → n < k → (cond (y == x) false free ≡ true → m y < k) → free ≡ true → renumbered x n m y < k
inner y x n k m free h f i = go (x == y) refl
  where
    go : (b : Bool) → (x == y) ≡ b → cond b n (m y) < k
    go true q = h
    go false q = f (subst (λ c. cond c false free ≡ true) (sym (turned (y == x) refl)) i)
      where
        turned : (c : Bool) → (y == x) ≡ c → (y == x) ≡ false
        turned c r = grind (arith, q)

mutual
  pub unbound_over : (f : Form) (m : Numbering) (n k : ℕ) → n + length (binders f) ≤ k → ((y : ℕ) → is_free y f ≡ true → m y < k) → IsOver k (unbound m n f)
  unbound_over (Form.number v) m n k h f x i = absurd (cc)
  unbound_over (Form.variable y) m n k h f x i = self_below x y k m f i
  unbound_over (Form.sum a b) m n k h f x i = two _ _ x k (unbound_over a m n k (first_below (binders a) (binders b) n k h) (λ y j. f y (left_free (is_free y a) (is_free y b) j)) x) (unbound_over b m (n + length (binders a)) k (second_below (binders a) (binders b) n k h) (λ y j. f y (right_free (is_free y a) (is_free y b) j)) x) i
  unbound_over (Form.difference a b) m n k h f x i = two _ _ x k (unbound_over a m n k (first_below (binders a) (binders b) n k h) (λ y j. f y (left_free (is_free y a) (is_free y b) j)) x) (unbound_over b m (n + length (binders a)) k (second_below (binders a) (binders b) n k h) (λ y j. f y (right_free (is_free y a) (is_free y b) j)) x) i
  unbound_over (Form.cut a b) m n k h f x i = two _ _ x k (unbound_over a m n k (first_below (binders a) (binders b) n k h) (λ y j. f y (left_free (is_free y a) (is_free y b) j)) x) (unbound_over b m (n + length (binders a)) k (second_below (binders a) (binders b) n k h) (λ y j. f y (right_free (is_free y a) (is_free y b) j)) x) i
  unbound_over (Form.min a b) m n k h f x i = two _ _ x k (unbound_over a m n k (first_below (binders a) (binders b) n k h) (λ y j. f y (left_free (is_free y a) (is_free y b) j)) x) (unbound_over b m (n + length (binders a)) k (second_below (binders a) (binders b) n k h) (λ y j. f y (right_free (is_free y a) (is_free y b) j)) x) i
  unbound_over (Form.max a b) m n k h f x i = two _ _ x k (unbound_over a m n k (first_below (binders a) (binders b) n k h) (λ y j. f y (left_free (is_free y a) (is_free y b) j)) x) (unbound_over b m (n + length (binders a)) k (second_below (binders a) (binders b) n k h) (λ y j. f y (right_free (is_free y a) (is_free y b) j)) x) i
  unbound_over (Form.imply a b) m n k h f x i = two _ _ x k (unbound_over a m n k (first_below (binders a) (binders b) n k h) (λ y j. f y (left_free (is_free y a) (is_free y b) j)) x) (unbound_over b m (n + length (binders a)) k (second_below (binders a) (binders b) n k h) (λ y j. f y (right_free (is_free y a) (is_free y b) j)) x) i
  unbound_over (Form.co_imply a b) m n k h f x i = two _ _ x k (unbound_over a m n k (first_below (binders a) (binders b) n k h) (λ y j. f y (left_free (is_free y a) (is_free y b) j)) x) (unbound_over b m (n + length (binders a)) k (second_below (binders a) (binders b) n k h) (λ y j. f y (right_free (is_free y a) (is_free y b) j)) x) i
  unbound_over (Form.product a b span) m n k h f x i = two _ _ x k (unbound_over a m n k (first_below (binders a) (binders b) n k h) (λ y j. f y (left_free (is_free y a) (is_free y b) j)) x) (unbound_over b m (n + length (binders a)) k (second_below (binders a) (binders b) n k h) (λ y j. f y (right_free (is_free y a) (is_free y b) j)) x) i
  unbound_over (Form.validate a) m n k h f x i = unbound_over a m n k h f x i
  unbound_over (Form.co_validate a) m n k h f x i = unbound_over a m n k h f x i
  unbound_over (Form.scale w a) m n k h f x i = unbound_over a m n k h f x i
  unbound_over (Form.embed g) m n k h f x i = unbound_over_in g m n k h f x i
  unbound_over (Form.iverson g) m n k h f x i = unbound_over_in g m n k h f x i
  unbound_over (Form.select g a b) m n k h f x i =
      let s = second_below (binders_in g) (binders a ++ binders b) n k h in
      two _ _ x k (unbound_over_in g m n k (first_below (binders_in g) (binders a ++ binders b) n k h) (λ y j. f y (left_free (is_free_in y g) (is_free y a || is_free y b) j)) x)
      (two _ _ x k (unbound_over a m (n + length (binders_in g)) k (first_below (binders a) (binders b) (n + length (binders_in g)) k s) (λ y j. f y (right_free (is_free_in y g) (is_free y a || is_free y b) (left_free (is_free y a) (is_free y b) j))) x)
      (unbound_over b m (n + length (binders_in g) + length (binders a)) k (second_below (binders a) (binders b) (n + length (binders_in g)) k s) (λ y j. f y (right_free (is_free_in y g) (is_free y a || is_free y b) (right_free (is_free y a) (is_free y b) j))) x)) i
  unbound_over (Form.bind up z name ty a) m n k h f x i = unbound_over a (renumbered z n m) (suc n) k (omega (arith, h)) (λ y j. inner y z n k m (is_free y a) (omega (arith, h)) (f y) j) x i

  pub unbound_over_in : (g : Cond) (m : Numbering) (n k : ℕ) → n + length (binders_in g) ≤ k → ((y : ℕ) → is_free_in y g ≡ true → m y < k) → IsOverIn k (unbound_in m n g)
  unbound_over_in (Cond.constant b) m n k h f x i = absurd (cc)
  unbound_over_in (Cond.flag y) m n k h f x i = self_below x y k m f i
  unbound_over_in (Cond.not g) m n k h f x i = unbound_over_in g m n k h f x i
  unbound_over_in (Cond.and a b) m n k h f x i = two _ _ x k (unbound_over_in a m n k (first_below (binders_in a) (binders_in b) n k h) (λ y j. f y (left_free (is_free_in y a) (is_free_in y b) j)) x) (unbound_over_in b m (n + length (binders_in a)) k (second_below (binders_in a) (binders_in b) n k h) (λ y j. f y (right_free (is_free_in y a) (is_free_in y b) j)) x) i
  unbound_over_in (Cond.or a b) m n k h f x i = two _ _ x k (unbound_over_in a m n k (first_below (binders_in a) (binders_in b) n k h) (λ y j. f y (left_free (is_free_in y a) (is_free_in y b) j)) x) (unbound_over_in b m (n + length (binders_in a)) k (second_below (binders_in a) (binders_in b) n k h) (λ y j. f y (right_free (is_free_in y a) (is_free_in y b) j)) x) i
  unbound_over_in (Cond.same a b) m n k h f x i = two _ _ x k (unbound_over_in a m n k (first_below (binders_in a) (binders_in b) n k h) (λ y j. f y (left_free (is_free_in y a) (is_free_in y b) j)) x) (unbound_over_in b m (n + length (binders_in a)) k (second_below (binders_in a) (binders_in b) n k h) (λ y j. f y (right_free (is_free_in y a) (is_free_in y b) j)) x) i
  unbound_over_in (Cond.le a b) m n k h f x i = two _ _ x k (unbound_over a m n k (first_below (binders a) (binders b) n k h) (λ y j. f y (left_free (is_free y a) (is_free y b) j)) x) (unbound_over b m (n + length (binders a)) k (second_below (binders a) (binders b) n k h) (λ y j. f y (right_free (is_free y a) (is_free y b) j)) x) i
  unbound_over_in (Cond.lt a b) m n k h f x i = two _ _ x k (unbound_over a m n k (first_below (binders a) (binders b) n k h) (λ y j. f y (left_free (is_free y a) (is_free y b) j)) x) (unbound_over b m (n + length (binders a)) k (second_below (binders a) (binders b) n k h) (λ y j. f y (right_free (is_free y a) (is_free y b) j)) x) i
  unbound_over_in (Cond.equal a b) m n k h f x i = two _ _ x k (unbound_over a m n k (first_below (binders a) (binders b) n k h) (λ y j. f y (left_free (is_free y a) (is_free y b) j)) x) (unbound_over b m (n + length (binders a)) k (second_below (binders a) (binders b) n k h) (λ y j. f y (right_free (is_free y a) (is_free y b) j)) x) i
  unbound_over_in (Cond.ite g a b) m n k h f x i =
      let s = second_below (binders_in g) (binders_in a ++ binders_in b) n k h in
      two _ _ x k (unbound_over_in g m n k (first_below (binders_in g) (binders_in a ++ binders_in b) n k h) (λ y j. f y (left_free (is_free_in y g) (is_free_in y a || is_free_in y b) j)) x)
      (two _ _ x k (unbound_over_in a m (n + length (binders_in g)) k (first_below (binders_in a) (binders_in b) (n + length (binders_in g)) k s) (λ y j. f y (right_free (is_free_in y g) (is_free_in y a || is_free_in y b) (left_free (is_free_in y a) (is_free_in y b) j))) x)
      (unbound_over_in b m (n + length (binders_in g) + length (binders_in a)) k (second_below (binders_in a) (binders_in b) (n + length (binders_in g)) k s) (λ y j. f y (right_free (is_free_in y g) (is_free_in y a || is_free_in y b) (right_free (is_free_in y a) (is_free_in y b) j))) x)) i
