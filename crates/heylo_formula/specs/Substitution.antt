-- Renaming of a variable, and capture-avoiding substitution for a variable.
use Rattle.std.specs.Prelude.{◌≡◌, ℕ, ◌+◌, ◌≤◌, ◌<◌, true, false, ◌==◌, ◌||◌, ◌&&◌, if◌then◌else◌}
use Prim.Native.Nat.{zero, suc}
use Rattle.heyvl_num.specs.Rational.{zeroʳ}
use Rattle.heyvl_num.specs.Value.Value.{finite}
use Rattle.heylo_formula.specs.Formula.{Form, Cond, Term}
use Rattle.heylo_formula.specs.Variables.{is_free, occurs, occurs_in_term}
use Rattle.heylo_formula.specs.Sizes.{nodes, nodes_in, nodes_in_term}

-- `renamed y z f`: the form `f` with `z` in place of each free occurrence of `y`.
abbrev mutual
  pub renamed : ℕ → ℕ → Form → Form
  renamed y z (Form.number v) = Form.number v
  renamed y z (Form.variable w) = if y == w then Form.variable z else Form.variable w
  renamed y z (Form.sum a b) = Form.sum (renamed y z a) (renamed y z b)
  renamed y z (Form.difference a b) = Form.difference (renamed y z a) (renamed y z b)
  renamed y z (Form.cut a b) = Form.cut (renamed y z a) (renamed y z b)
  renamed y z (Form.scale w a) = Form.scale w (renamed y z a)
  renamed y z (Form.product a b span) = Form.product (renamed y z a) (renamed y z b) span
  renamed y z (Form.min a b) = Form.min (renamed y z a) (renamed y z b)
  renamed y z (Form.max a b) = Form.max (renamed y z a) (renamed y z b)
  renamed y z (Form.imply a b) = Form.imply (renamed y z a) (renamed y z b)
  renamed y z (Form.co_imply a b) = Form.co_imply (renamed y z a) (renamed y z b)
  renamed y z (Form.validate a) = Form.validate (renamed y z a)
  renamed y z (Form.co_validate a) = Form.co_validate (renamed y z a)
  renamed y z (Form.embed g) = Form.embed (renamed_in y z g)
  renamed y z (Form.iverson g) = Form.iverson (renamed_in y z g)
  renamed y z (Form.select g a b) = Form.select (renamed_in y z g) (renamed y z a) (renamed y z b)
  renamed y z (Form.bind up w name ty a) =
      Form.bind up w name ty (if y == w then a else renamed y z a)

  -- The condition with `z` in place of each free occurrence of `y`.
  pub renamed_in : ℕ → ℕ → Cond → Cond
  renamed_in y z (Cond.constant b) = Cond.constant b
  renamed_in y z (Cond.flag w) = if y == w then Cond.flag z else Cond.flag w
  renamed_in y z (Cond.not g) = Cond.not (renamed_in y z g)
  renamed_in y z (Cond.and g h) = Cond.and (renamed_in y z g) (renamed_in y z h)
  renamed_in y z (Cond.or g h) = Cond.or (renamed_in y z g) (renamed_in y z h)
  renamed_in y z (Cond.same g h) = Cond.same (renamed_in y z g) (renamed_in y z h)
  renamed_in y z (Cond.le a b) = Cond.le (renamed y z a) (renamed y z b)
  renamed_in y z (Cond.lt a b) = Cond.lt (renamed y z a) (renamed y z b)
  renamed_in y z (Cond.equal a b) = Cond.equal (renamed y z a) (renamed y z b)
  renamed_in y z (Cond.ite g h k) =
      Cond.ite (renamed_in y z g) (renamed_in y z h) (renamed_in y z k)

-- `least_unused k n a t`: the least number from `n` on that occurs neither in `a` nor in `t`, found
-- with at most `k` steps. Each node has at most one number, so that as many steps suffice as there
-- are nodes.
unfoldable pub least_unused : ℕ → ℕ → Form → Term → ℕ
least_unused zero n a t = n
least_unused (suc k) n a t = if occurs n a || occurs_in_term n t then least_unused k (n + 1) a t
    else n

-- `fresh a t`: the variable that a binder with the body `a` takes if the term `t` is substituted:
-- the least unused number from 1,048,576 on.
unfoldable pub fresh : Form → Term → ℕ
fresh a t = least_unused (nodes a + nodes_in_term t) 1048576 a t

-- `z` is the least number from 1,048,576 on that occurs neither in `a` nor in `t`.
pub record IsFresh (a : Form) (t : Term) (z : ℕ) : Type 0 where
  pub unused : (occurs z a || occurs_in_term z t) ≡ false
  pub from : 1048576 ≤ z
  pub least : (n : ℕ) → 1048576 ≤ n → n < z → (occurs n a || occurs_in_term n t) ≡ true

-- The form that replaces a numeric variable: 0 if the term is a condition.
abbrev pub as_form : Term → Form
as_form (Term.truth g) = Form.number (finite zeroʳ)
as_form (Term.number f) = f

-- The condition that replaces a Boolean variable: false if the term is a form.
abbrev pub as_cond : Term → Cond
as_cond (Term.truth g) = g
as_cond (Term.number f) = Cond.constant false

-- `subst_within n x t f`: the form `f` with the term `t` in place of each free occurrence of `x`,
-- if `n` exceeds the number of nodes of `f`. A binder of `x` is kept as it is. If the variable of
-- another binder occurs in `t`, and `x` is free in its body, the binder first takes a fresh
-- variable.
abbrev mutual
  pub subst_within : ℕ → ℕ → Term → Form → Form
  subst_within zero x t f = f
  subst_within (suc n) x t (Form.number v) = Form.number v
  subst_within (suc n) x t (Form.variable w) = if x == w then as_form t else Form.variable w
  subst_within (suc n) x t (Form.sum a b) = Form.sum (subst_within n x t a) (subst_within n x t b)
  subst_within (suc n) x t (Form.difference a b) =
      Form.difference (subst_within n x t a) (subst_within n x t b)
  subst_within (suc n) x t (Form.cut a b) = Form.cut (subst_within n x t a) (subst_within n x t b)
  subst_within (suc n) x t (Form.scale w a) = Form.scale w (subst_within n x t a)
  subst_within (suc n) x t (Form.product a b span) =
      Form.product (subst_within n x t a) (subst_within n x t b) span
  subst_within (suc n) x t (Form.min a b) = Form.min (subst_within n x t a) (subst_within n x t b)
  subst_within (suc n) x t (Form.max a b) = Form.max (subst_within n x t a) (subst_within n x t b)
  subst_within (suc n) x t (Form.imply a b) =
      Form.imply (subst_within n x t a) (subst_within n x t b)
  subst_within (suc n) x t (Form.co_imply a b) =
      Form.co_imply (subst_within n x t a) (subst_within n x t b)
  subst_within (suc n) x t (Form.validate a) = Form.validate (subst_within n x t a)
  subst_within (suc n) x t (Form.co_validate a) = Form.co_validate (subst_within n x t a)
  subst_within (suc n) x t (Form.embed g) = Form.embed (subst_within_in n x t g)
  subst_within (suc n) x t (Form.iverson g) = Form.iverson (subst_within_in n x t g)
  subst_within (suc n) x t (Form.select g a b) =
      Form.select (subst_within_in n x t g) (subst_within n x t a) (subst_within n x t b)
  subst_within (suc n) x t (Form.bind up w name ty a) = if x == w then Form.bind up w name ty a
      else (if occurs_in_term w t && is_free x a
      then Form.bind up (fresh a t) name ty (subst_within n x t (renamed w (fresh a t) a))
      else Form.bind up w name ty (subst_within n x t a))

  -- The condition `g` with the term `t` in place of each free occurrence of `x`, if `n` exceeds the
  -- number of nodes of `g`.
  pub subst_within_in : ℕ → ℕ → Term → Cond → Cond
  subst_within_in zero x t g = g
  subst_within_in (suc n) x t (Cond.constant b) = Cond.constant b
  subst_within_in (suc n) x t (Cond.flag w) = if x == w then as_cond t else Cond.flag w
  subst_within_in (suc n) x t (Cond.not g) = Cond.not (subst_within_in n x t g)
  subst_within_in (suc n) x t (Cond.and g h) =
      Cond.and (subst_within_in n x t g) (subst_within_in n x t h)
  subst_within_in (suc n) x t (Cond.or g h) =
      Cond.or (subst_within_in n x t g) (subst_within_in n x t h)
  subst_within_in (suc n) x t (Cond.same g h) =
      Cond.same (subst_within_in n x t g) (subst_within_in n x t h)
  subst_within_in (suc n) x t (Cond.le a b) = Cond.le (subst_within n x t a) (subst_within n x t b)
  subst_within_in (suc n) x t (Cond.lt a b) = Cond.lt (subst_within n x t a) (subst_within n x t b)
  subst_within_in (suc n) x t (Cond.equal a b) =
      Cond.equal (subst_within n x t a) (subst_within n x t b)
  subst_within_in (suc n) x t (Cond.ite g h k) =
      Cond.ite (subst_within_in n x t g) (subst_within_in n x t h) (subst_within_in n x t k)

-- `subst x t f`: the form `f` with the term `t` in place of each free occurrence of `x`, where no
-- binder captures a variable of `t`. Substituting `x1` for `x0` in `sup x1: UInt. x0 + x1` yields
-- `sup x1048576: UInt. x1 + x1048576`.
unfoldable pub subst : ℕ → Term → Form → Form
subst x t f = subst_within (suc (nodes f)) x t f

-- `subst_in x t g`: the condition `g` with the term `t` in place of each free occurrence of `x`,
-- where no binder captures a variable of `t`.
unfoldable pub subst_in : ℕ → Term → Cond → Cond
subst_in x t g = subst_within_in (suc (nodes_in g)) x t g

-- `nodes_put x m k f`: the number of nodes of `f` with a term in place of each free occurrence of
-- `x`, where the term has `m` nodes as a form, and `k` as a condition.
abbrev mutual
  pub nodes_put : ℕ → ℕ → ℕ → Form → ℕ
  nodes_put x m k (Form.number v) = 1
  nodes_put x m k (Form.variable w) = if x == w then m else 1
  nodes_put x m k (Form.sum a b) = 1 + (nodes_put x m k a + nodes_put x m k b)
  nodes_put x m k (Form.difference a b) = 1 + (nodes_put x m k a + nodes_put x m k b)
  nodes_put x m k (Form.cut a b) = 1 + (nodes_put x m k a + nodes_put x m k b)
  nodes_put x m k (Form.scale w a) = 1 + nodes_put x m k a
  nodes_put x m k (Form.product a b span) = 1 + (nodes_put x m k a + nodes_put x m k b)
  nodes_put x m k (Form.min a b) = 1 + (nodes_put x m k a + nodes_put x m k b)
  nodes_put x m k (Form.max a b) = 1 + (nodes_put x m k a + nodes_put x m k b)
  nodes_put x m k (Form.imply a b) = 1 + (nodes_put x m k a + nodes_put x m k b)
  nodes_put x m k (Form.co_imply a b) = 1 + (nodes_put x m k a + nodes_put x m k b)
  nodes_put x m k (Form.validate a) = 1 + nodes_put x m k a
  nodes_put x m k (Form.co_validate a) = 1 + nodes_put x m k a
  nodes_put x m k (Form.embed g) = 1 + nodes_put_in x m k g
  nodes_put x m k (Form.iverson g) = 1 + nodes_put_in x m k g
  nodes_put x m k (Form.select g a b) =
      1 + (nodes_put_in x m k g + (nodes_put x m k a + nodes_put x m k b))
  nodes_put x m k (Form.bind up w name ty a) = 1 + (if x == w then nodes a else nodes_put x m k a)

  -- The number of nodes of a condition with a term in place of each free occurrence of `x`.
  pub nodes_put_in : ℕ → ℕ → ℕ → Cond → ℕ
  nodes_put_in x m k (Cond.constant b) = 1
  nodes_put_in x m k (Cond.flag w) = if x == w then k else 1
  nodes_put_in x m k (Cond.not g) = 1 + nodes_put_in x m k g
  nodes_put_in x m k (Cond.and g h) = 1 + (nodes_put_in x m k g + nodes_put_in x m k h)
  nodes_put_in x m k (Cond.or g h) = 1 + (nodes_put_in x m k g + nodes_put_in x m k h)
  nodes_put_in x m k (Cond.same g h) = 1 + (nodes_put_in x m k g + nodes_put_in x m k h)
  nodes_put_in x m k (Cond.le a b) = 1 + (nodes_put x m k a + nodes_put x m k b)
  nodes_put_in x m k (Cond.lt a b) = 1 + (nodes_put x m k a + nodes_put x m k b)
  nodes_put_in x m k (Cond.equal a b) = 1 + (nodes_put x m k a + nodes_put x m k b)
  nodes_put_in x m k (Cond.ite g h j) =
      1 + (nodes_put_in x m k g + (nodes_put_in x m k h + nodes_put_in x m k j))
