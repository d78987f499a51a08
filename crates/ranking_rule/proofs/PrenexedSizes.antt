-- The prenexed form has fewer nodes than the form, by the number of binders.
use Rattle.std.proofs.Common.{◌≡◌, ℕ, ◌+◌, refl, arith, List, ◌++◌, length}
use Rattle.std.proofs.lemmas.List.{length-append}
use Prim.Native.Nat.{suc}
use Rattle.heylo_formula.specs.BinderNames.{Binder, binders, binders_in}
use Rattle.heylo_formula.specs.Formula.{Form, Cond}
use Rattle.heylo_formula.specs.Sizes.{nodes, nodes_in}
use Rattle.vp_generator.specs.PrenexedForms.{Numbering, renumbered, unbound, unbound_in}

two : (a b c d : ℕ) (xs ys : List Binder) → a + length xs ≡ c → b + length ys ≡ d → 1 + (a + b) + length (xs ++ ys) ≡ 1 + (c + d)
two a b c d xs ys h k = let l = length-append xs ys in omega (arith, l, h, k)

three : (a b c d e f : ℕ) (xs ys zs : List Binder) → a + length xs ≡ d → b + length ys ≡ e → c + length zs ≡ f → 1 + (a + (b + c)) + length (xs ++ (ys ++ zs)) ≡ 1 + (d + (e + f))
three a b c d e f xs ys zs h k i = let l = length-append xs (ys ++ zs) in let m = length-append ys zs in omega (arith, l, m, h, k, i)

more : (a b : ℕ) (xs : List Binder) → a + length xs ≡ b → 1 + a + length xs ≡ 1 + b
more a b xs h = omega (arith, h)

mutual
  pub nodes_unbound : (m : Numbering) (n : ℕ) (f : Form) → nodes (unbound m n f) + length (binders f) ≡ nodes f
  nodes_unbound m n (Form.number v) = refl
  nodes_unbound m n (Form.variable x) = refl
  nodes_unbound m n (Form.sum a b) = two _ _ _ _ (binders a) (binders b) (nodes_unbound m n a) (nodes_unbound m (n + length (binders a)) b)
  nodes_unbound m n (Form.difference a b) = two _ _ _ _ (binders a) (binders b) (nodes_unbound m n a) (nodes_unbound m (n + length (binders a)) b)
  nodes_unbound m n (Form.cut a b) = two _ _ _ _ (binders a) (binders b) (nodes_unbound m n a) (nodes_unbound m (n + length (binders a)) b)
  nodes_unbound m n (Form.scale w a) = more _ _ (binders a) (nodes_unbound m n a)
  nodes_unbound m n (Form.product a b span) = two _ _ _ _ (binders a) (binders b) (nodes_unbound m n a) (nodes_unbound m (n + length (binders a)) b)
  nodes_unbound m n (Form.min a b) = two _ _ _ _ (binders a) (binders b) (nodes_unbound m n a) (nodes_unbound m (n + length (binders a)) b)
  nodes_unbound m n (Form.max a b) = two _ _ _ _ (binders a) (binders b) (nodes_unbound m n a) (nodes_unbound m (n + length (binders a)) b)
  nodes_unbound m n (Form.imply a b) = two _ _ _ _ (binders a) (binders b) (nodes_unbound m n a) (nodes_unbound m (n + length (binders a)) b)
  nodes_unbound m n (Form.co_imply a b) = two _ _ _ _ (binders a) (binders b) (nodes_unbound m n a) (nodes_unbound m (n + length (binders a)) b)
  nodes_unbound m n (Form.validate a) = more _ _ (binders a) (nodes_unbound m n a)
  nodes_unbound m n (Form.co_validate a) = more _ _ (binders a) (nodes_unbound m n a)
  nodes_unbound m n (Form.embed g) = more _ _ (binders_in g) (nodes_unbound_in m n g)
  nodes_unbound m n (Form.iverson g) = more _ _ (binders_in g) (nodes_unbound_in m n g)
  nodes_unbound m n (Form.select g a b) = three _ _ _ _ _ _ (binders_in g) (binders a) (binders b) (nodes_unbound_in m n g) (nodes_unbound m (n + length (binders_in g)) a) (nodes_unbound m (n + length (binders_in g) + length (binders a)) b)
  nodes_unbound m n (Form.bind up x name ty a) = let h = nodes_unbound (renumbered x n m) (suc n) a in omega (arith, h)

  nodes_unbound_in : (m : Numbering) (n : ℕ) (g : Cond) → nodes_in (unbound_in m n g) + length (binders_in g) ≡ nodes_in g
  nodes_unbound_in m n (Cond.constant b) = refl
  nodes_unbound_in m n (Cond.flag x) = refl
  nodes_unbound_in m n (Cond.not g) = more _ _ (binders_in g) (nodes_unbound_in m n g)
  nodes_unbound_in m n (Cond.and g h) = two _ _ _ _ (binders_in g) (binders_in h) (nodes_unbound_in m n g) (nodes_unbound_in m (n + length (binders_in g)) h)
  nodes_unbound_in m n (Cond.or g h) = two _ _ _ _ (binders_in g) (binders_in h) (nodes_unbound_in m n g) (nodes_unbound_in m (n + length (binders_in g)) h)
  nodes_unbound_in m n (Cond.same g h) = two _ _ _ _ (binders_in g) (binders_in h) (nodes_unbound_in m n g) (nodes_unbound_in m (n + length (binders_in g)) h)
  nodes_unbound_in m n (Cond.le a b) = two _ _ _ _ (binders a) (binders b) (nodes_unbound m n a) (nodes_unbound m (n + length (binders a)) b)
  nodes_unbound_in m n (Cond.lt a b) = two _ _ _ _ (binders a) (binders b) (nodes_unbound m n a) (nodes_unbound m (n + length (binders a)) b)
  nodes_unbound_in m n (Cond.equal a b) = two _ _ _ _ (binders a) (binders b) (nodes_unbound m n a) (nodes_unbound m (n + length (binders a)) b)
  nodes_unbound_in m n (Cond.ite g h k) = three _ _ _ _ _ _ (binders_in g) (binders_in h) (binders_in k) (nodes_unbound_in m n g) (nodes_unbound_in m (n + length (binders_in g)) h) (nodes_unbound_in m (n + length (binders_in g) + length (binders_in h)) k)
