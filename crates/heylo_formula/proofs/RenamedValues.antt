-- The value of a renamed form is the value in the renamed state.
use Rattle.std.proofs.Common.{◌≡◌, ℕ, ◌+◌, refl, sym, ap, ap₂, ◌∙◌, arith, Bool, true, false, not, cond, ◌==◌, ◌||◌, ◌&&◌}
use Rattle.heyvl_num.specs.Value.{zeroᵛ, oneᵛ, leqᵛ, ◌+ᵛ◌, ◌*ᵛ◌}
use Rattle.heyvl_num.specs.Value.Value.{finite, infinite}
use Rattle.heyvl_num.specs.ValueOperators.{minᵛ, maxᵛ, impliesᵛ, coimpliesᵛ, monusᵛ}
use Rattle.heylo_formula.specs.Operators.{differenceᵛ, validateᵛ, covalidateᵛ, lessᵛ, equalᵛ, agree}
use Rattle.heylo_formula.specs.State.{Env, put, fit, truth_of, number_of}
use Rattle.heylo_formula.specs.Choices.{Choices, here, left, right}
use Rattle.heylo_formula.specs.Formula.{Form, Cond}
use Rattle.heylo_formula.specs.Variables.{occurs, occurs_in}
use Rattle.heylo_formula.specs.Meaning.{value, holds}
use Rattle.heylo_formula.specs.declared.values.Val.{Val}
use Rattle.heylo_formula.specs.Sizes.{nodes, nodes_in}
use Rattle.heylo_formula.proofs.Dependence.{or_false, put_again, put_commute, three}
use Rattle.heylo_formula.specs.Substitution.{renamed, renamed_in}

pick_form : (y z w : ℕ) (s : Env) (c : Choices) → value (cond (y == w) (Form.variable z) (Form.variable w)) s c ≡ finite (number_of (put y (s z) s w))
pick_form y z w s c = go (y == w)
  where
    go : (b : Bool) → value (cond b (Form.variable z) (Form.variable w)) s c ≡ finite (number_of (cond b (s z) (s w)))
    go true = refl
    go false = refl

pick_cond : (y z w : ℕ) (s : Env) (c : Choices) → holds (cond (y == w) (Cond.flag z) (Cond.flag w)) s c ≡ truth_of (put y (s z) s w)
pick_cond y z w s c = go (y == w)
  where
    go : (b : Bool) → holds (cond b (Cond.flag z) (Cond.flag w)) s c ≡ truth_of (cond b (s z) (s w))
    go true = refl
    go false = refl

other : (z w : ℕ) (v : Val) (s : Env) → (z == w) ≡ false → put w v s z ≡ s z
other z w v s e = let k : (w == z) ≡ false = grind arith in rw k

renamed_bind : (y z w : ℕ) (a : Form) (v : Val) (s : Env) (c : Choices) → (z == w) ≡ false → ((r : Env) → value (renamed y z a) r c ≡ value a (put y (r z) r) c) → value (cond (y == w) a (renamed y z a)) (put w v s) c ≡ value a (put w v (put y (s z) s)) c
renamed_bind y z w a v s c e ih = go (y == w) refl
  where
    go : (b : Bool) → (y == w) ≡ b → value (cond b a (renamed y z a)) (put w v s) c ≡ value a (put w v (put y (s z) s)) c
    go true q = ap (λ r. value a r c) (sym (put_again y w v (s z) s q))
    go false q = ih (put w v s) ∙ ap (λ u. value a (put y u (put w v s)) c) (other z w v s e) ∙ ap (λ r. value a r c) (put_commute y w v (s z) s q)

-- A renamed form, if the new number does not occur.
mutual
  pub renamed_value : (y z : ℕ) (f : Form) (s : Env) (c : Choices) → occurs z f ≡ false → value (renamed y z f) s c ≡ value f (put y (s z) s) c
  renamed_value y z (Form.number v) s c h0 = refl
  renamed_value y z (Form.variable w) s c h0 = pick_form y z w s c
  renamed_value y z (Form.sum a b) s c h0 = ap₂ (λ p q. p +ᵛ q) (renamed_value y z a s (left c) (or_false (occurs z a) (occurs z b) h0).0) (renamed_value y z b s (right c) (or_false (occurs z a) (occurs z b) h0).1)
  renamed_value y z (Form.difference a b) s c h0 = ap₂ (λ p q. differenceᵛ p q) (renamed_value y z a s (left c) (or_false (occurs z a) (occurs z b) h0).0) (renamed_value y z b s (right c) (or_false (occurs z a) (occurs z b) h0).1)
  renamed_value y z (Form.cut a b) s c h0 = ap₂ (λ p q. monusᵛ p q) (renamed_value y z a s (left c) (or_false (occurs z a) (occurs z b) h0).0) (renamed_value y z b s (right c) (or_false (occurs z a) (occurs z b) h0).1)
  renamed_value y z (Form.scale w a) s c h0 = ap (λ p. finite w *ᵛ p) (renamed_value y z a s c h0)
  renamed_value y z (Form.product a b span) s c h0 = ap₂ (λ p q. p *ᵛ q) (renamed_value y z a s (left c) (or_false (occurs z a) (occurs z b) h0).0) (renamed_value y z b s (right c) (or_false (occurs z a) (occurs z b) h0).1)
  renamed_value y z (Form.min a b) s c h0 = ap₂ (λ p q. minᵛ p q) (renamed_value y z a s (left c) (or_false (occurs z a) (occurs z b) h0).0) (renamed_value y z b s (right c) (or_false (occurs z a) (occurs z b) h0).1)
  renamed_value y z (Form.max a b) s c h0 = ap₂ (λ p q. maxᵛ p q) (renamed_value y z a s (left c) (or_false (occurs z a) (occurs z b) h0).0) (renamed_value y z b s (right c) (or_false (occurs z a) (occurs z b) h0).1)
  renamed_value y z (Form.imply a b) s c h0 = ap₂ (λ p q. impliesᵛ p q) (renamed_value y z a s (left c) (or_false (occurs z a) (occurs z b) h0).0) (renamed_value y z b s (right c) (or_false (occurs z a) (occurs z b) h0).1)
  renamed_value y z (Form.co_imply a b) s c h0 = ap₂ (λ p q. coimpliesᵛ p q) (renamed_value y z a s (left c) (or_false (occurs z a) (occurs z b) h0).0) (renamed_value y z b s (right c) (or_false (occurs z a) (occurs z b) h0).1)
  renamed_value y z (Form.validate a) s c h0 = ap (λ p. validateᵛ p) (renamed_value y z a s c h0)
  renamed_value y z (Form.co_validate a) s c h0 = ap (λ p. covalidateᵛ p) (renamed_value y z a s c h0)
  renamed_value y z (Form.embed g) s c h0 = ap (λ p. cond p infinite zeroᵛ) (renamed_value_in y z g s c h0)
  renamed_value y z (Form.iverson g) s c h0 = ap (λ p. cond p oneᵛ zeroᵛ) (renamed_value_in y z g s c h0)
  renamed_value y z (Form.select g a b) s c h0 = three (renamed_value_in y z g s (left c) (or_false (occurs_in z g) ((occurs z a) || (occurs z b)) h0).0) (renamed_value y z a s (right c) (or_false (occurs z a) (occurs z b) (or_false (occurs_in z g) ((occurs z a) || (occurs z b)) h0).1).0) (renamed_value y z b s (right c) (or_false (occurs z a) (occurs z b) (or_false (occurs_in z g) ((occurs z a) || (occurs z b)) h0).1).1)
  renamed_value y z (Form.bind up w name ty a) s c h0 = renamed_bind y z w a (fit ty (here c)) s (left c) (or_false (z == w) (occurs z a) h0).0 (λ r. renamed_value y z a r (left c) (or_false (z == w) (occurs z a) h0).1)

  pub renamed_value_in : (y z : ℕ) (g : Cond) (s : Env) (c : Choices) → occurs_in z g ≡ false → holds (renamed_in y z g) s c ≡ holds g (put y (s z) s) c
  renamed_value_in y z (Cond.constant b) s c h0 = refl
  renamed_value_in y z (Cond.flag w) s c h0 = pick_cond y z w s c
  renamed_value_in y z (Cond.not g) s c h0 = ap (λ p. not p) (renamed_value_in y z g s c h0)
  renamed_value_in y z (Cond.and g h) s c h0 = ap₂ (λ p q. p && q) (renamed_value_in y z g s (left c) (or_false (occurs_in z g) (occurs_in z h) h0).0) (renamed_value_in y z h s (right c) (or_false (occurs_in z g) (occurs_in z h) h0).1)
  renamed_value_in y z (Cond.or g h) s c h0 = ap₂ (λ p q. p || q) (renamed_value_in y z g s (left c) (or_false (occurs_in z g) (occurs_in z h) h0).0) (renamed_value_in y z h s (right c) (or_false (occurs_in z g) (occurs_in z h) h0).1)
  renamed_value_in y z (Cond.same g h) s c h0 = ap₂ (λ p q. agree p q) (renamed_value_in y z g s (left c) (or_false (occurs_in z g) (occurs_in z h) h0).0) (renamed_value_in y z h s (right c) (or_false (occurs_in z g) (occurs_in z h) h0).1)
  renamed_value_in y z (Cond.le a b) s c h0 = ap₂ (λ p q. leqᵛ p q) (renamed_value y z a s (left c) (or_false (occurs z a) (occurs z b) h0).0) (renamed_value y z b s (right c) (or_false (occurs z a) (occurs z b) h0).1)
  renamed_value_in y z (Cond.lt a b) s c h0 = ap₂ (λ p q. lessᵛ p q) (renamed_value y z a s (left c) (or_false (occurs z a) (occurs z b) h0).0) (renamed_value y z b s (right c) (or_false (occurs z a) (occurs z b) h0).1)
  renamed_value_in y z (Cond.equal a b) s c h0 = ap₂ (λ p q. equalᵛ p q) (renamed_value y z a s (left c) (or_false (occurs z a) (occurs z b) h0).0) (renamed_value y z b s (right c) (or_false (occurs z a) (occurs z b) h0).1)
  renamed_value_in y z (Cond.ite g h k) s c h0 = three (renamed_value_in y z g s (left c) (or_false (occurs_in z g) ((occurs_in z h) || (occurs_in z k)) h0).0) (renamed_value_in y z h s (right c) (or_false (occurs_in z h) (occurs_in z k) (or_false (occurs_in z g) ((occurs_in z h) || (occurs_in z k)) h0).1).0) (renamed_value_in y z k s (right c) (or_false (occurs_in z h) (occurs_in z k) (or_false (occurs_in z g) ((occurs_in z h) || (occurs_in z k)) h0).1).1)

leaf_nodes : (b : Bool) (z w : ℕ) → nodes (cond b (Form.variable z) (Form.variable w)) ≡ 1
leaf_nodes true z w = refl
leaf_nodes false z w = refl

flag_nodes : (b : Bool) (z w : ℕ) → nodes_in (cond b (Cond.flag z) (Cond.flag w)) ≡ 1
flag_nodes true z w = refl
flag_nodes false z w = refl

bind_nodes : (b : Bool) (a a' : Form) → nodes a' ≡ nodes a → 1 + nodes (cond b a a') ≡ 1 + nodes a
bind_nodes true a a' e = refl
bind_nodes false a a' e = ap (λ n. 1 + n) e

mutual
  pub same_nodes : (y z : ℕ) (f : Form) → nodes (renamed y z f) ≡ nodes f
  same_nodes y z (Form.number v) = refl
  same_nodes y z (Form.variable w) = leaf_nodes (y == w) z w
  same_nodes y z (Form.sum a b) = ap₂ (λ m n. 1 + (m + n)) (same_nodes y z a) (same_nodes y z b)
  same_nodes y z (Form.difference a b) = ap₂ (λ m n. 1 + (m + n)) (same_nodes y z a) (same_nodes y z b)
  same_nodes y z (Form.cut a b) = ap₂ (λ m n. 1 + (m + n)) (same_nodes y z a) (same_nodes y z b)
  same_nodes y z (Form.scale w a) = ap (λ n. 1 + n) (same_nodes y z a)
  same_nodes y z (Form.product a b span) = ap₂ (λ m n. 1 + (m + n)) (same_nodes y z a) (same_nodes y z b)
  same_nodes y z (Form.min a b) = ap₂ (λ m n. 1 + (m + n)) (same_nodes y z a) (same_nodes y z b)
  same_nodes y z (Form.max a b) = ap₂ (λ m n. 1 + (m + n)) (same_nodes y z a) (same_nodes y z b)
  same_nodes y z (Form.imply a b) = ap₂ (λ m n. 1 + (m + n)) (same_nodes y z a) (same_nodes y z b)
  same_nodes y z (Form.co_imply a b) = ap₂ (λ m n. 1 + (m + n)) (same_nodes y z a) (same_nodes y z b)
  same_nodes y z (Form.validate a) = ap (λ n. 1 + n) (same_nodes y z a)
  same_nodes y z (Form.co_validate a) = ap (λ n. 1 + n) (same_nodes y z a)
  same_nodes y z (Form.embed g) = ap (λ n. 1 + n) (same_nodes_in y z g)
  same_nodes y z (Form.iverson g) = ap (λ n. 1 + n) (same_nodes_in y z g)
  same_nodes y z (Form.select g a b) = ap₂ (λ m n. 1 + (m + n)) (same_nodes_in y z g) (ap₂ (λ m n. m + n) (same_nodes y z a) (same_nodes y z b))
  same_nodes y z (Form.bind up w name ty a) = bind_nodes (y == w) a (renamed y z a) (same_nodes y z a)

  pub same_nodes_in : (y z : ℕ) (g : Cond) → nodes_in (renamed_in y z g) ≡ nodes_in g
  same_nodes_in y z (Cond.constant b) = refl
  same_nodes_in y z (Cond.flag w) = flag_nodes (y == w) z w
  same_nodes_in y z (Cond.not g) = ap (λ n. 1 + n) (same_nodes_in y z g)
  same_nodes_in y z (Cond.and g h) = ap₂ (λ m n. 1 + (m + n)) (same_nodes_in y z g) (same_nodes_in y z h)
  same_nodes_in y z (Cond.or g h) = ap₂ (λ m n. 1 + (m + n)) (same_nodes_in y z g) (same_nodes_in y z h)
  same_nodes_in y z (Cond.same g h) = ap₂ (λ m n. 1 + (m + n)) (same_nodes_in y z g) (same_nodes_in y z h)
  same_nodes_in y z (Cond.le a b) = ap₂ (λ m n. 1 + (m + n)) (same_nodes y z a) (same_nodes y z b)
  same_nodes_in y z (Cond.lt a b) = ap₂ (λ m n. 1 + (m + n)) (same_nodes y z a) (same_nodes y z b)
  same_nodes_in y z (Cond.equal a b) = ap₂ (λ m n. 1 + (m + n)) (same_nodes y z a) (same_nodes y z b)
  same_nodes_in y z (Cond.ite g h k) = ap₂ (λ m n. 1 + (m + n)) (same_nodes_in y z g) (ap₂ (λ m n. m + n) (same_nodes_in y z h) (same_nodes_in y z k))
