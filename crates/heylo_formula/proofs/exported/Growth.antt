-- For the proofs of other crates: renaming keeps nodes and depth, and a substitution makes a form
-- no smaller.
use Rattle.std.proofs.Common.{◌≡◌, ℕ, ◌≤◌, ◌+◌, refl, ap, ap₂, arith, Bool, true, false, cond, ◌==◌, ◌&&◌, max}
use Prim.Native.Nat.{zero, suc}
use Rattle.heylo_formula.specs.Formula.{Form, Cond, Term}
use Rattle.heylo_formula.specs.Sizes.{nodes, nodes_in, depth, depth_in}
use Rattle.heylo_formula.specs.Variables.{is_free, occurs_in_term}
use Rattle.heylo_formula.specs.Substitution as Replaced
use Rattle.heylo_formula.specs.Substitution.{renamed, renamed_in, fresh, as_form, as_cond, subst_within, subst_within_in}
pub use Rattle.heylo_formula.proofs.RenamedValues.{same_nodes, same_nodes_in}

pub one_node : (f : Form) → 1 ≤ nodes f
one_node (Form.number v) = omega arith
one_node (Form.variable x) = omega arith
one_node (Form.sum a b) = omega arith
one_node (Form.difference a b) = omega arith
one_node (Form.cut a b) = omega arith
one_node (Form.product a b span) = omega arith
one_node (Form.min a b) = omega arith
one_node (Form.max a b) = omega arith
one_node (Form.imply a b) = omega arith
one_node (Form.co_imply a b) = omega arith
one_node (Form.scale w a) = omega arith
one_node (Form.validate a) = omega arith
one_node (Form.co_validate a) = omega arith
one_node (Form.embed g) = omega arith
one_node (Form.iverson g) = omega arith
one_node (Form.select g a b) = omega arith
one_node (Form.bind up y name ty a) = omega arith

pub one_node_in : (g : Cond) → 1 ≤ nodes_in g
one_node_in (Cond.constant b) = omega arith
one_node_in (Cond.flag x) = omega arith
one_node_in (Cond.not g) = omega arith
one_node_in (Cond.and g h) = omega arith
one_node_in (Cond.or g h) = omega arith
one_node_in (Cond.same g h) = omega arith
one_node_in (Cond.le a b) = omega arith
one_node_in (Cond.lt a b) = omega arith
one_node_in (Cond.equal a b) = omega arith
one_node_in (Cond.ite g h k) = omega arith

pub one_deep : (f : Form) → 1 ≤ depth f
one_deep (Form.number v) = omega arith
one_deep (Form.variable x) = omega arith
one_deep (Form.sum a b) = omega arith
one_deep (Form.difference a b) = omega arith
one_deep (Form.cut a b) = omega arith
one_deep (Form.product a b span) = omega arith
one_deep (Form.min a b) = omega arith
one_deep (Form.max a b) = omega arith
one_deep (Form.imply a b) = omega arith
one_deep (Form.co_imply a b) = omega arith
one_deep (Form.scale w a) = omega arith
one_deep (Form.validate a) = omega arith
one_deep (Form.co_validate a) = omega arith
one_deep (Form.embed g) = omega arith
one_deep (Form.iverson g) = omega arith
one_deep (Form.select g a b) = omega arith
one_deep (Form.bind up y name ty a) = omega arith

pub one_deep_in : (g : Cond) → 1 ≤ depth_in g
one_deep_in (Cond.constant b) = omega arith
one_deep_in (Cond.flag x) = omega arith
one_deep_in (Cond.not g) = omega arith
one_deep_in (Cond.and g h) = omega arith
one_deep_in (Cond.or g h) = omega arith
one_deep_in (Cond.same g h) = omega arith
one_deep_in (Cond.le a b) = omega arith
one_deep_in (Cond.lt a b) = omega arith
one_deep_in (Cond.equal a b) = omega arith
one_deep_in (Cond.ite g h k) = omega arith

two_deep : (a b c d : ℕ) → a ≤ c → b ≤ d → 1 + max a b ≤ 1 + max c d
two_deep a b c d h k = omega arith

three_deep : (a b c d e f : ℕ) → a ≤ d → b ≤ e → c ≤ f → 1 + max a (max b c) ≤ 1 + max d (max e f)
three_deep a b c d e f h k l = omega arith

mutual
  pub same_depth : (y z : ℕ) (f : Form) → depth (renamed y z f) ≡ depth f
  same_depth y z (Form.number v) = refl
  same_depth y z (Form.variable w) = go (y == w)
    where
      go : (b : Bool) → depth (cond b (Form.variable z) (Form.variable w)) ≡ 1
      go true = refl
      go false = refl
  same_depth y z (Form.sum a b) = ap₂ (λ m n. 1 + max m n) (same_depth y z a) (same_depth y z b)
  same_depth y z (Form.difference a b) = ap₂ (λ m n. 1 + max m n) (same_depth y z a) (same_depth y z b)
  same_depth y z (Form.cut a b) = ap₂ (λ m n. 1 + max m n) (same_depth y z a) (same_depth y z b)
  same_depth y z (Form.product a b span) = ap₂ (λ m n. 1 + max m n) (same_depth y z a) (same_depth y z b)
  same_depth y z (Form.min a b) = ap₂ (λ m n. 1 + max m n) (same_depth y z a) (same_depth y z b)
  same_depth y z (Form.max a b) = ap₂ (λ m n. 1 + max m n) (same_depth y z a) (same_depth y z b)
  same_depth y z (Form.imply a b) = ap₂ (λ m n. 1 + max m n) (same_depth y z a) (same_depth y z b)
  same_depth y z (Form.co_imply a b) = ap₂ (λ m n. 1 + max m n) (same_depth y z a) (same_depth y z b)
  same_depth y z (Form.scale w a) = ap (λ m. 1 + m) (same_depth y z a)
  same_depth y z (Form.validate a) = ap (λ m. 1 + m) (same_depth y z a)
  same_depth y z (Form.co_validate a) = ap (λ m. 1 + m) (same_depth y z a)
  same_depth y z (Form.embed g) = ap (λ m. 1 + m) (same_depth_in y z g)
  same_depth y z (Form.iverson g) = ap (λ m. 1 + m) (same_depth_in y z g)
  same_depth y z (Form.select g a b) = ap₂ (λ m n. 1 + max m n) (same_depth_in y z g) (ap₂ (λ (m : ℕ) n. max m n) (same_depth y z a) (same_depth y z b))
  same_depth y z (Form.bind up w name ty a) = go (y == w) (same_depth y z a)
    where
      go : (b : Bool) → depth (renamed y z a) ≡ depth a → 1 + depth (cond b a (renamed y z a)) ≡ 1 + depth a
      go true h = refl
      go false h = ap (λ m. 1 + m) h

  pub same_depth_in : (y z : ℕ) (g : Cond) → depth_in (renamed_in y z g) ≡ depth_in g
  same_depth_in y z (Cond.constant b) = refl
  same_depth_in y z (Cond.flag w) = go (y == w)
    where
      go : (b : Bool) → depth_in (cond b (Cond.flag z) (Cond.flag w)) ≡ 1
      go true = refl
      go false = refl
  same_depth_in y z (Cond.not g) = ap (λ m. 1 + m) (same_depth_in y z g)
  same_depth_in y z (Cond.and g h) = ap₂ (λ m n. 1 + max m n) (same_depth_in y z g) (same_depth_in y z h)
  same_depth_in y z (Cond.or g h) = ap₂ (λ m n. 1 + max m n) (same_depth_in y z g) (same_depth_in y z h)
  same_depth_in y z (Cond.same g h) = ap₂ (λ m n. 1 + max m n) (same_depth_in y z g) (same_depth_in y z h)
  same_depth_in y z (Cond.le a b) = ap₂ (λ m n. 1 + max m n) (same_depth y z a) (same_depth y z b)
  same_depth_in y z (Cond.lt a b) = ap₂ (λ m n. 1 + max m n) (same_depth y z a) (same_depth y z b)
  same_depth_in y z (Cond.equal a b) = ap₂ (λ m n. 1 + max m n) (same_depth y z a) (same_depth y z b)
  same_depth_in y z (Cond.ite g h k) = ap₂ (λ m n. 1 + max m n) (same_depth_in y z g) (ap₂ (λ (m : ℕ) n. max m n) (same_depth_in y z h) (same_depth_in y z k))

grow_variable : (x w : ℕ) (t : Term) → 1 ≤ nodes (cond (x == w) (as_form t) (Form.variable w))
grow_variable x w t = go (x == w)
  where
    go : (b : Bool) → 1 ≤ nodes (cond b (as_form t) (Form.variable w))
    go true = one_node (as_form t)
    go false = omega arith

grow_flag : (x w : ℕ) (t : Term) → 1 ≤ nodes_in (cond (x == w) (as_cond t) (Cond.flag w))
grow_flag x w t = go (x == w)
  where
    go : (b : Bool) → 1 ≤ nodes_in (cond b (as_cond t) (Cond.flag w))
    go true = one_node_in (as_cond t)
    go false = omega arith

grow_bind : (n x w : ℕ) (up : Bool) (name : ℕ) (ty : _) (a : Form) (t : Term) → ((b : Form) → nodes b ≤ nodes (subst_within n x t b)) → 1 + nodes a ≤ nodes (cond (x == w) (Form.bind up w name ty a) (cond (occurs_in_term w t && is_free x a) (Form.bind up (fresh a t) name ty (subst_within n x t (renamed w (fresh a t) a))) (Form.bind up w name ty (subst_within n x t a))))
grow_bind n x w up name ty a t ih = go (x == w) (occurs_in_term w t && is_free x a)
  where
    go : (p q : Bool) → 1 + nodes a ≤ nodes (cond p (Form.bind up w name ty a) (cond q (Form.bind up (fresh a t) name ty (subst_within n x t (renamed w (fresh a t) a))) (Form.bind up w name ty (subst_within n x t a))))
    go true q = omega arith
    go false true = let h = ih (renamed w (fresh a t) a) in let e = same_nodes w (fresh a t) a in omega arith
    go false false = let h = ih a in omega arith

mutual
  grow_within : (n x : ℕ) (t : Term) (f : Form) → nodes f ≤ nodes (subst_within n x t f)
  grow_within zero x t f = omega arith
  grow_within (suc n) x t (Form.number v) = omega arith
  grow_within (suc n) x t (Form.variable w) = grow_variable x w t
  grow_within (suc n) x t (Form.sum a b) = let h = grow_within n x t a in let k = grow_within n x t b in omega arith
  grow_within (suc n) x t (Form.difference a b) = let h = grow_within n x t a in let k = grow_within n x t b in omega arith
  grow_within (suc n) x t (Form.cut a b) = let h = grow_within n x t a in let k = grow_within n x t b in omega arith
  grow_within (suc n) x t (Form.product a b span) = let h = grow_within n x t a in let k = grow_within n x t b in omega arith
  grow_within (suc n) x t (Form.min a b) = let h = grow_within n x t a in let k = grow_within n x t b in omega arith
  grow_within (suc n) x t (Form.max a b) = let h = grow_within n x t a in let k = grow_within n x t b in omega arith
  grow_within (suc n) x t (Form.imply a b) = let h = grow_within n x t a in let k = grow_within n x t b in omega arith
  grow_within (suc n) x t (Form.co_imply a b) = let h = grow_within n x t a in let k = grow_within n x t b in omega arith
  grow_within (suc n) x t (Form.scale w a) = let h = grow_within n x t a in omega arith
  grow_within (suc n) x t (Form.validate a) = let h = grow_within n x t a in omega arith
  grow_within (suc n) x t (Form.co_validate a) = let h = grow_within n x t a in omega arith
  grow_within (suc n) x t (Form.embed g) = let h = grow_within_in n x t g in omega arith
  grow_within (suc n) x t (Form.iverson g) = let h = grow_within_in n x t g in omega arith
  grow_within (suc n) x t (Form.select g a b) = let l = grow_within_in n x t g in let h = grow_within n x t a in let k = grow_within n x t b in omega arith
  grow_within (suc n) x t (Form.bind up w name ty a) = grow_bind n x w up name ty a t (λ b. grow_within n x t b)

  grow_within_in : (n x : ℕ) (t : Term) (g : Cond) → nodes_in g ≤ nodes_in (subst_within_in n x t g)
  grow_within_in zero x t g = omega arith
  grow_within_in (suc n) x t (Cond.constant b) = omega arith
  grow_within_in (suc n) x t (Cond.flag w) = grow_flag x w t
  grow_within_in (suc n) x t (Cond.not g) = let h = grow_within_in n x t g in omega arith
  grow_within_in (suc n) x t (Cond.and g h) = let l = grow_within_in n x t g in let k = grow_within_in n x t h in omega arith
  grow_within_in (suc n) x t (Cond.or g h) = let l = grow_within_in n x t g in let k = grow_within_in n x t h in omega arith
  grow_within_in (suc n) x t (Cond.same g h) = let l = grow_within_in n x t g in let k = grow_within_in n x t h in omega arith
  grow_within_in (suc n) x t (Cond.le a b) = let l = grow_within n x t a in let k = grow_within n x t b in omega arith
  grow_within_in (suc n) x t (Cond.lt a b) = let l = grow_within n x t a in let k = grow_within n x t b in omega arith
  grow_within_in (suc n) x t (Cond.equal a b) = let l = grow_within n x t a in let k = grow_within n x t b in omega arith
  grow_within_in (suc n) x t (Cond.ite g h k) = let l = grow_within_in n x t g in let p = grow_within_in n x t h in let q = grow_within_in n x t k in omega arith

pub grow_subst : (x : ℕ) (t : Term) (f : Form) → nodes f ≤ nodes (Replaced.subst x t f)
unfolding Replaced.subst
grow_subst x t f = grow_within (suc (nodes f)) x t f

pub grow_subst_in : (x : ℕ) (t : Term) (g : Cond) → nodes_in g ≤ nodes_in (Replaced.subst_in x t g)
unfolding Replaced.subst_in
grow_subst_in x t g = grow_within_in (suc (nodes_in g)) x t g

deepen_variable : (x w : ℕ) (t : Term) → 1 ≤ depth (cond (x == w) (as_form t) (Form.variable w))
deepen_variable x w t = go (x == w)
  where
    go : (b : Bool) → 1 ≤ depth (cond b (as_form t) (Form.variable w))
    go true = one_deep (as_form t)
    go false = omega arith

deepen_flag : (x w : ℕ) (t : Term) → 1 ≤ depth_in (cond (x == w) (as_cond t) (Cond.flag w))
deepen_flag x w t = go (x == w)
  where
    go : (b : Bool) → 1 ≤ depth_in (cond b (as_cond t) (Cond.flag w))
    go true = one_deep_in (as_cond t)
    go false = omega arith

deepen_bind : (n x w : ℕ) (up : Bool) (name : ℕ) (ty : _) (a : Form) (t : Term) → ((b : Form) → depth b ≤ depth (subst_within n x t b)) → 1 + depth a ≤ depth (cond (x == w) (Form.bind up w name ty a) (cond (occurs_in_term w t && is_free x a) (Form.bind up (fresh a t) name ty (subst_within n x t (renamed w (fresh a t) a))) (Form.bind up w name ty (subst_within n x t a))))
deepen_bind n x w up name ty a t ih = go (x == w) (occurs_in_term w t && is_free x a)
  where
    go : (p q : Bool) → 1 + depth a ≤ depth (cond p (Form.bind up w name ty a) (cond q (Form.bind up (fresh a t) name ty (subst_within n x t (renamed w (fresh a t) a))) (Form.bind up w name ty (subst_within n x t a))))
    go true q = omega arith
    go false true = let h = ih (renamed w (fresh a t) a) in let e = same_depth w (fresh a t) a in omega arith
    go false false = let h = ih a in omega arith

mutual
  deepen_within : (n x : ℕ) (t : Term) (f : Form) → depth f ≤ depth (subst_within n x t f)
  deepen_within zero x t f = omega arith
  deepen_within (suc n) x t (Form.number v) = omega arith
  deepen_within (suc n) x t (Form.variable w) = deepen_variable x w t
  deepen_within (suc n) x t (Form.sum a b) = two_deep _ _ _ _ (deepen_within n x t a) (deepen_within n x t b)
  deepen_within (suc n) x t (Form.difference a b) = two_deep _ _ _ _ (deepen_within n x t a) (deepen_within n x t b)
  deepen_within (suc n) x t (Form.cut a b) = two_deep _ _ _ _ (deepen_within n x t a) (deepen_within n x t b)
  deepen_within (suc n) x t (Form.product a b span) = two_deep _ _ _ _ (deepen_within n x t a) (deepen_within n x t b)
  deepen_within (suc n) x t (Form.min a b) = two_deep _ _ _ _ (deepen_within n x t a) (deepen_within n x t b)
  deepen_within (suc n) x t (Form.max a b) = two_deep _ _ _ _ (deepen_within n x t a) (deepen_within n x t b)
  deepen_within (suc n) x t (Form.imply a b) = two_deep _ _ _ _ (deepen_within n x t a) (deepen_within n x t b)
  deepen_within (suc n) x t (Form.co_imply a b) = two_deep _ _ _ _ (deepen_within n x t a) (deepen_within n x t b)
  deepen_within (suc n) x t (Form.scale w a) = let h = deepen_within n x t a in omega arith
  deepen_within (suc n) x t (Form.validate a) = let h = deepen_within n x t a in omega arith
  deepen_within (suc n) x t (Form.co_validate a) = let h = deepen_within n x t a in omega arith
  deepen_within (suc n) x t (Form.embed g) = let h = deepen_within_in n x t g in omega arith
  deepen_within (suc n) x t (Form.iverson g) = let h = deepen_within_in n x t g in omega arith
  deepen_within (suc n) x t (Form.select g a b) = three_deep _ _ _ _ _ _ (deepen_within_in n x t g) (deepen_within n x t a) (deepen_within n x t b)
  deepen_within (suc n) x t (Form.bind up w name ty a) = deepen_bind n x w up name ty a t (λ b. deepen_within n x t b)

  deepen_within_in : (n x : ℕ) (t : Term) (g : Cond) → depth_in g ≤ depth_in (subst_within_in n x t g)
  deepen_within_in zero x t g = omega arith
  deepen_within_in (suc n) x t (Cond.constant b) = omega arith
  deepen_within_in (suc n) x t (Cond.flag w) = deepen_flag x w t
  deepen_within_in (suc n) x t (Cond.not g) = let h = deepen_within_in n x t g in omega arith
  deepen_within_in (suc n) x t (Cond.and g h) = two_deep _ _ _ _ (deepen_within_in n x t g) (deepen_within_in n x t h)
  deepen_within_in (suc n) x t (Cond.or g h) = two_deep _ _ _ _ (deepen_within_in n x t g) (deepen_within_in n x t h)
  deepen_within_in (suc n) x t (Cond.same g h) = two_deep _ _ _ _ (deepen_within_in n x t g) (deepen_within_in n x t h)
  deepen_within_in (suc n) x t (Cond.le a b) = two_deep _ _ _ _ (deepen_within n x t a) (deepen_within n x t b)
  deepen_within_in (suc n) x t (Cond.lt a b) = two_deep _ _ _ _ (deepen_within n x t a) (deepen_within n x t b)
  deepen_within_in (suc n) x t (Cond.equal a b) = two_deep _ _ _ _ (deepen_within n x t a) (deepen_within n x t b)
  deepen_within_in (suc n) x t (Cond.ite g h k) = three_deep _ _ _ _ _ _ (deepen_within_in n x t g) (deepen_within_in n x t h) (deepen_within_in n x t k)

pub deepen_subst : (x : ℕ) (t : Term) (f : Form) → depth f ≤ depth (Replaced.subst x t f)
unfolding Replaced.subst
deepen_subst x t f = deepen_within (suc (nodes f)) x t f

pub deepen_subst_in : (x : ℕ) (t : Term) (g : Cond) → depth_in g ≤ depth_in (Replaced.subst_in x t g)
unfolding Replaced.subst_in
deepen_subst_in x t g = deepen_within_in (suc (nodes_in g)) x t g
