-- The prenexed form: each occurrence of a binder becomes a variable. The new variables are numbered
-- from left to right, an outer binder before the binders in its body. Over three variables, for
-- example, `(inf x. x) + (sup y. y)` becomes the sum of the variables 3 and 4. This project's own.
use Rattle.std.specs.Prelude.{ℕ, ◌+◌, ◌==◌, List, [], ◌∷◌, ◌++◌, length, if◌then◌else◌}
use Prim.Native.Nat.{suc}
use Rattle.heylo_formula.specs.Formula.{Form, Cond}
use Rattle.heylo_formula.specs.BinderNames.{Binder, binders, binders_in}
use Rattle.heylo_formula.specs.State.{fit}
use Rattle.heylo_formula.specs.Choices.{Choices, here, left, right}
use Rattle.heylo_formula.specs.declared.types.Ty.{Ty}
use Rattle.heylo_formula.specs.declared.values.Val.{Val}

-- The number of each variable.
abbrev pub Numbering : Type 0
Numbering = ℕ → ℕ

-- The numbering `m` in which `x` has the number `n` instead.
abbrev pub renumbered : ℕ → ℕ → Numbering → Numbering
renumbered x n m y = if x == y then n else m y

-- `unbound m n f`: `f` without its binders. Its variables are numbered by `m`, its binders from `n`
-- on.
abbrev mutual
  pub unbound : Numbering → ℕ → Form → Form
  unbound m n (Form.number v) = Form.number v
  unbound m n (Form.variable x) = Form.variable (m x)
  unbound m n (Form.sum a b) = Form.sum (unbound m n a) (unbound m (n + length (binders a)) b)
  unbound m n (Form.difference a b) =
      Form.difference (unbound m n a) (unbound m (n + length (binders a)) b)
  unbound m n (Form.cut a b) = Form.cut (unbound m n a) (unbound m (n + length (binders a)) b)
  unbound m n (Form.scale w a) = Form.scale w (unbound m n a)
  unbound m n (Form.product a b span) =
      Form.product (unbound m n a) (unbound m (n + length (binders a)) b) span
  unbound m n (Form.min a b) = Form.min (unbound m n a) (unbound m (n + length (binders a)) b)
  unbound m n (Form.max a b) = Form.max (unbound m n a) (unbound m (n + length (binders a)) b)
  unbound m n (Form.imply a b) = Form.imply (unbound m n a) (unbound m (n + length (binders a)) b)
  unbound m n (Form.co_imply a b) =
      Form.co_imply (unbound m n a) (unbound m (n + length (binders a)) b)
  unbound m n (Form.validate a) = Form.validate (unbound m n a)
  unbound m n (Form.co_validate a) = Form.co_validate (unbound m n a)
  unbound m n (Form.embed g) = Form.embed (unbound_in m n g)
  unbound m n (Form.iverson g) = Form.iverson (unbound_in m n g)
  unbound m n (Form.select g a b) = Form.select (unbound_in m n g)
      (unbound m (n + length (binders_in g)) a)
      (unbound m (n + length (binders_in g) + length (binders a)) b)
  unbound m n (Form.bind up x name ty a) = unbound (renumbered x n m) (suc n) a

  -- `unbound_in m n g`: the condition `g` without its binders.
  pub unbound_in : Numbering → ℕ → Cond → Cond
  unbound_in m n (Cond.constant b) = Cond.constant b
  unbound_in m n (Cond.flag x) = Cond.flag (m x)
  unbound_in m n (Cond.not g) = Cond.not (unbound_in m n g)
  unbound_in m n (Cond.and g h) =
      Cond.and (unbound_in m n g) (unbound_in m (n + length (binders_in g)) h)
  unbound_in m n (Cond.or g h) =
      Cond.or (unbound_in m n g) (unbound_in m (n + length (binders_in g)) h)
  unbound_in m n (Cond.same g h) =
      Cond.same (unbound_in m n g) (unbound_in m (n + length (binders_in g)) h)
  unbound_in m n (Cond.le a b) = Cond.le (unbound m n a) (unbound m (n + length (binders a)) b)
  unbound_in m n (Cond.lt a b) = Cond.lt (unbound m n a) (unbound m (n + length (binders a)) b)
  unbound_in m n (Cond.equal a b) =
      Cond.equal (unbound m n a) (unbound m (n + length (binders a)) b)
  unbound_in m n (Cond.ite g h k) = Cond.ite (unbound_in m n g)
      (unbound_in m (n + length (binders_in g)) h)
      (unbound_in m (n + length (binders_in g) + length (binders_in h)) k)

-- The values that the choices `c` give to the occurrences of binders, each of its type, from left
-- to right.
abbrev mutual
  pub chosen : Form → Choices → List Val
  chosen (Form.number v) c = []
  chosen (Form.variable x) c = []
  chosen (Form.sum a b) c = chosen a (left c) ++ chosen b (right c)
  chosen (Form.difference a b) c = chosen a (left c) ++ chosen b (right c)
  chosen (Form.cut a b) c = chosen a (left c) ++ chosen b (right c)
  chosen (Form.scale w a) c = chosen a c
  chosen (Form.product a b span) c = chosen a (left c) ++ chosen b (right c)
  chosen (Form.min a b) c = chosen a (left c) ++ chosen b (right c)
  chosen (Form.max a b) c = chosen a (left c) ++ chosen b (right c)
  chosen (Form.imply a b) c = chosen a (left c) ++ chosen b (right c)
  chosen (Form.co_imply a b) c = chosen a (left c) ++ chosen b (right c)
  chosen (Form.validate a) c = chosen a c
  chosen (Form.co_validate a) c = chosen a c
  chosen (Form.embed g) c = chosen_in g c
  chosen (Form.iverson g) c = chosen_in g c
  chosen (Form.select g a b) c = chosen_in g (left c) ++ (chosen a (right c) ++ chosen b (right c))
  chosen (Form.bind up x name ty a) c = fit ty (here c) ∷ chosen a (left c)

  -- The values that the choices `c` give to the binders in a condition.
  pub chosen_in : Cond → Choices → List Val
  chosen_in (Cond.constant b) c = []
  chosen_in (Cond.flag x) c = []
  chosen_in (Cond.not g) c = chosen_in g c
  chosen_in (Cond.and g h) c = chosen_in g (left c) ++ chosen_in h (right c)
  chosen_in (Cond.or g h) c = chosen_in g (left c) ++ chosen_in h (right c)
  chosen_in (Cond.same g h) c = chosen_in g (left c) ++ chosen_in h (right c)
  chosen_in (Cond.le a b) c = chosen a (left c) ++ chosen b (right c)
  chosen_in (Cond.lt a b) c = chosen a (left c) ++ chosen b (right c)
  chosen_in (Cond.equal a b) c = chosen a (left c) ++ chosen b (right c)
  chosen_in (Cond.ite g h k) c =
      chosen_in g (left c) ++ (chosen_in h (right c) ++ chosen_in k (right c))

-- The prenexed form of a form over `n` variables.
abbrev pub prenexed : ℕ → Form → Form
prenexed n f = unbound (λ x. x) n f

-- The types of the binders.
abbrev pub new_types : List Binder → List Ty
new_types [] = []
new_types (b ∷ bs) = b.1 ∷ new_types bs
