-- Substituting a term of at most three nodes makes a form at most three times as large.
use Rattle.std.proofs.Common.{◌≡◌, ◌≤◌, ◌*◌, ◌==◌, ◌||◌, ℕ, arith, Bool, true, false, cond}
use Rattle.heylo_formula.specs.Binders.{has_binder, has_binder_in}
use Rattle.heylo_formula.specs.Formula.{Form, Cond}
use Rattle.heylo_formula.specs.Sizes.{nodes, nodes_in}
use Rattle.heylo_formula.specs.Substitution.{nodes_put, nodes_put_in}
use Rattle.heylo_formula.proofs.exported.Agreement.{or_false}

one_put : (b : Bool) (i : ℕ) → i ≤ 3 → cond b i 1 ≤ 3
one_put true i h = h
one_put false i h = omega arith

mutual
  pub put_size : (x i k : ℕ) → i ≤ 3 → k ≤ 3 → (f : Form) → has_binder f ≡ false → nodes_put x i k f ≤ 3 * nodes f
  put_size x i k h l (Form.number v) p = omega arith
  put_size x i k h l (Form.variable y) p = one_put (x == y) i h
  put_size x i k h l (Form.sum a b) p = let q = or_false (has_binder a) (has_binder b) p in let s = put_size x i k h l a q.0 in let t = put_size x i k h l b q.1 in omega (arith, s, t)
  put_size x i k h l (Form.difference a b) p = let q = or_false (has_binder a) (has_binder b) p in let s = put_size x i k h l a q.0 in let t = put_size x i k h l b q.1 in omega (arith, s, t)
  put_size x i k h l (Form.cut a b) p = let q = or_false (has_binder a) (has_binder b) p in let s = put_size x i k h l a q.0 in let t = put_size x i k h l b q.1 in omega (arith, s, t)
  put_size x i k h l (Form.min a b) p = let q = or_false (has_binder a) (has_binder b) p in let s = put_size x i k h l a q.0 in let t = put_size x i k h l b q.1 in omega (arith, s, t)
  put_size x i k h l (Form.max a b) p = let q = or_false (has_binder a) (has_binder b) p in let s = put_size x i k h l a q.0 in let t = put_size x i k h l b q.1 in omega (arith, s, t)
  put_size x i k h l (Form.imply a b) p = let q = or_false (has_binder a) (has_binder b) p in let s = put_size x i k h l a q.0 in let t = put_size x i k h l b q.1 in omega (arith, s, t)
  put_size x i k h l (Form.co_imply a b) p = let q = or_false (has_binder a) (has_binder b) p in let s = put_size x i k h l a q.0 in let t = put_size x i k h l b q.1 in omega (arith, s, t)
  put_size x i k h l (Form.product a b span) p = let q = or_false (has_binder a) (has_binder b) p in let s = put_size x i k h l a q.0 in let t = put_size x i k h l b q.1 in omega (arith, s, t)
  put_size x i k h l (Form.scale r a) p = let s = put_size x i k h l a p in omega (arith, s)
  put_size x i k h l (Form.validate a) p = let s = put_size x i k h l a p in omega (arith, s)
  put_size x i k h l (Form.co_validate a) p = let s = put_size x i k h l a p in omega (arith, s)
  put_size x i k h l (Form.embed g) p = let s = put_size_in x i k h l g p in omega (arith, s)
  put_size x i k h l (Form.iverson g) p = let s = put_size_in x i k h l g p in omega (arith, s)
  put_size x i k h l (Form.select g a b) p = let q = or_false (has_binder_in g) (has_binder a || has_binder b) p in let r = or_false (has_binder a) (has_binder b) q.1 in let s = put_size_in x i k h l g q.0 in let t = put_size x i k h l a r.0 in let u = put_size x i k h l b r.1 in omega (arith, s, t, u)
  put_size x i k h l (Form.bind up y name ty a) p = absurd (cc)

  pub put_size_in : (x i k : ℕ) → i ≤ 3 → k ≤ 3 → (g : Cond) → has_binder_in g ≡ false → nodes_put_in x i k g ≤ 3 * nodes_in g
  put_size_in x i k h l (Cond.constant b) p = omega arith
  put_size_in x i k h l (Cond.flag y) p = one_put (x == y) k l
  put_size_in x i k h l (Cond.not g) p = let s = put_size_in x i k h l g p in omega (arith, s)
  put_size_in x i k h l (Cond.and g j) p = let q = or_false (has_binder_in g) (has_binder_in j) p in let s = put_size_in x i k h l g q.0 in let t = put_size_in x i k h l j q.1 in omega (arith, s, t)
  put_size_in x i k h l (Cond.or g j) p = let q = or_false (has_binder_in g) (has_binder_in j) p in let s = put_size_in x i k h l g q.0 in let t = put_size_in x i k h l j q.1 in omega (arith, s, t)
  put_size_in x i k h l (Cond.same g j) p = let q = or_false (has_binder_in g) (has_binder_in j) p in let s = put_size_in x i k h l g q.0 in let t = put_size_in x i k h l j q.1 in omega (arith, s, t)
  put_size_in x i k h l (Cond.le a b) p = let q = or_false (has_binder a) (has_binder b) p in let s = put_size x i k h l a q.0 in let t = put_size x i k h l b q.1 in omega (arith, s, t)
  put_size_in x i k h l (Cond.lt a b) p = let q = or_false (has_binder a) (has_binder b) p in let s = put_size x i k h l a q.0 in let t = put_size x i k h l b q.1 in omega (arith, s, t)
  put_size_in x i k h l (Cond.equal a b) p = let q = or_false (has_binder a) (has_binder b) p in let s = put_size x i k h l a q.0 in let t = put_size x i k h l b q.1 in omega (arith, s, t)
  put_size_in x i k h l (Cond.ite g j o) p = let q = or_false (has_binder_in g) (has_binder_in j || has_binder_in o) p in let r = or_false (has_binder_in j) (has_binder_in o) q.1 in let s = put_size_in x i k h l g q.0 in let t = put_size_in x i k h l j r.0 in let u = put_size_in x i k h l o r.1 in omega (arith, s, t, u)
