-- The binders of a form, with the variables after which they are named. This project's own.
use Rattle.std.specs.Prelude.{ℕ, List, [], ◌∷◌, ◌++◌}
use Rattle.heylo_formula.specs.Formula.{Form, Cond}
use Rattle.heylo_formula.specs.declared.types.Ty.{Ty}

-- The name of a binder, which is the number of the variable after which it is named, and the type
-- of its variable.
abbrev pub Binder : Type 0
Binder = ℕ × Ty

-- The binders of a form, in the order of the text.
abbrev mutual
  pub binders : Form → List Binder
  binders (Form.number v) = []
  binders (Form.variable x) = []
  binders (Form.sum a b) = binders a ++ binders b
  binders (Form.difference a b) = binders a ++ binders b
  binders (Form.cut a b) = binders a ++ binders b
  binders (Form.scale w a) = binders a
  binders (Form.product a b span) = binders a ++ binders b
  binders (Form.min a b) = binders a ++ binders b
  binders (Form.max a b) = binders a ++ binders b
  binders (Form.imply a b) = binders a ++ binders b
  binders (Form.co_imply a b) = binders a ++ binders b
  binders (Form.validate a) = binders a
  binders (Form.co_validate a) = binders a
  binders (Form.embed g) = binders_in g
  binders (Form.iverson g) = binders_in g
  binders (Form.select g a b) = binders_in g ++ (binders a ++ binders b)
  binders (Form.bind up x name ty a) = (name, ty) ∷ binders a

  -- The binders of a condition, in the order of the text.
  pub binders_in : Cond → List Binder
  binders_in (Cond.constant b) = []
  binders_in (Cond.flag x) = []
  binders_in (Cond.not g) = binders_in g
  binders_in (Cond.and g h) = binders_in g ++ binders_in h
  binders_in (Cond.or g h) = binders_in g ++ binders_in h
  binders_in (Cond.same g h) = binders_in g ++ binders_in h
  binders_in (Cond.le a b) = binders a ++ binders b
  binders_in (Cond.lt a b) = binders a ++ binders b
  binders_in (Cond.equal a b) = binders a ++ binders b
  binders_in (Cond.ite g h k) = binders_in g ++ (binders_in h ++ binders_in k)
