-- Shifted forms, in which the numbers of all variables are increased by the same number. This
-- project's own.
use Rattle.std.specs.Prelude.{ℕ, ◌+◌, max}
use Rattle.heylo_formula.specs.Formula.{Form, Cond}

-- `shifted m f`: the form `f` with `m` added to the number of each variable, bound variables
-- included, so that no binder captures. The names of binders do not change. With `m` = 2, the form
-- `sup x1: UInt. x0 + x1` becomes `sup x3: UInt. x2 + x3`.
abbrev mutual
  pub shifted : ℕ → Form → Form
  shifted m (Form.number v) = Form.number v
  shifted m (Form.variable x) = Form.variable (m + x)
  shifted m (Form.sum a b) = Form.sum (shifted m a) (shifted m b)
  shifted m (Form.difference a b) = Form.difference (shifted m a) (shifted m b)
  shifted m (Form.cut a b) = Form.cut (shifted m a) (shifted m b)
  shifted m (Form.scale w a) = Form.scale w (shifted m a)
  shifted m (Form.product a b span) = Form.product (shifted m a) (shifted m b) span
  shifted m (Form.min a b) = Form.min (shifted m a) (shifted m b)
  shifted m (Form.max a b) = Form.max (shifted m a) (shifted m b)
  shifted m (Form.imply a b) = Form.imply (shifted m a) (shifted m b)
  shifted m (Form.co_imply a b) = Form.co_imply (shifted m a) (shifted m b)
  shifted m (Form.validate a) = Form.validate (shifted m a)
  shifted m (Form.co_validate a) = Form.co_validate (shifted m a)
  shifted m (Form.embed g) = Form.embed (shifted_in m g)
  shifted m (Form.iverson g) = Form.iverson (shifted_in m g)
  shifted m (Form.select g a b) = Form.select (shifted_in m g) (shifted m a) (shifted m b)
  shifted m (Form.bind up x name ty a) = Form.bind up (m + x) name ty (shifted m a)

  -- The condition with `m` added to the number of each variable, bound variables included.
  pub shifted_in : ℕ → Cond → Cond
  shifted_in m (Cond.constant b) = Cond.constant b
  shifted_in m (Cond.flag x) = Cond.flag (m + x)
  shifted_in m (Cond.not g) = Cond.not (shifted_in m g)
  shifted_in m (Cond.and g h) = Cond.and (shifted_in m g) (shifted_in m h)
  shifted_in m (Cond.or g h) = Cond.or (shifted_in m g) (shifted_in m h)
  shifted_in m (Cond.same g h) = Cond.same (shifted_in m g) (shifted_in m h)
  shifted_in m (Cond.le a b) = Cond.le (shifted m a) (shifted m b)
  shifted_in m (Cond.lt a b) = Cond.lt (shifted m a) (shifted m b)
  shifted_in m (Cond.equal a b) = Cond.equal (shifted m a) (shifted m b)
  shifted_in m (Cond.ite g h k) = Cond.ite (shifted_in m g) (shifted_in m h) (shifted_in m k)

-- 1 plus the largest number that occurs in the form as a variable or a bound variable; 0 if none
-- does. The extent of `x3 + 1` is 4.
abbrev mutual
  pub extent : Form → ℕ
  extent (Form.number v) = 0
  extent (Form.variable x) = 1 + x
  extent (Form.sum a b) = max (extent a) (extent b)
  extent (Form.difference a b) = max (extent a) (extent b)
  extent (Form.cut a b) = max (extent a) (extent b)
  extent (Form.scale w a) = extent a
  extent (Form.product a b span) = max (extent a) (extent b)
  extent (Form.min a b) = max (extent a) (extent b)
  extent (Form.max a b) = max (extent a) (extent b)
  extent (Form.imply a b) = max (extent a) (extent b)
  extent (Form.co_imply a b) = max (extent a) (extent b)
  extent (Form.validate a) = extent a
  extent (Form.co_validate a) = extent a
  extent (Form.embed g) = extent_in g
  extent (Form.iverson g) = extent_in g
  extent (Form.select g a b) = max (extent_in g) (max (extent a) (extent b))
  extent (Form.bind up x name ty a) = max (1 + x) (extent a)

  -- 1 plus the largest number that occurs in the condition as a variable or a bound variable; 0 if
  -- none does.
  pub extent_in : Cond → ℕ
  extent_in (Cond.constant b) = 0
  extent_in (Cond.flag x) = 1 + x
  extent_in (Cond.not g) = extent_in g
  extent_in (Cond.and g h) = max (extent_in g) (extent_in h)
  extent_in (Cond.or g h) = max (extent_in g) (extent_in h)
  extent_in (Cond.same g h) = max (extent_in g) (extent_in h)
  extent_in (Cond.le a b) = max (extent a) (extent b)
  extent_in (Cond.lt a b) = max (extent a) (extent b)
  extent_in (Cond.equal a b) = max (extent a) (extent b)
  extent_in (Cond.ite g h k) = max (extent_in g) (max (extent_in h) (extent_in k))
