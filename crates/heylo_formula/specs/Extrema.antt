-- The meaning of a form in which each binder takes the best value of its body: a supremum is the
-- least value that is at least each value of the body, an infimum the largest one that is at most
-- each. If no fraction is the best, the form has no meaning.
--
-- Source: HeyLo, the logic of HeyVL (Schroeer, Batz, Kaminski, Katoen, Matheja, OOPSLA 2023). Which
-- operators preserve suprema or infima is this project's own table.
use Rattle.std.specs.Prelude.{◌≡◌, ◌↔◌, Bool, true, false, not, ◌&&◌, ◌||◌, if◌then◌else◌}
use Rattle.heyvl_num.specs.Value.{Value, zeroᵛ, oneᵛ, ◌+ᵛ◌, ◌*ᵛ◌}
use Rattle.heyvl_num.specs.Value.Value.{finite, infinite}
use Rattle.heyvl_num.specs.ValueOperators.{minᵛ, maxᵛ, impliesᵛ, coimpliesᵛ, monusᵛ}
use Rattle.heylo_formula.specs.Operators.{differenceᵛ, validateᵛ, covalidateᵛ, agree, is_finite}
use Rattle.heylo_formula.specs.State.{Env, put, has, number_of}
use Rattle.heylo_formula.specs.Choices.{Choices}
use Rattle.heylo_formula.specs.Formula.{Form}
use Rattle.heylo_formula.specs.Meaning.{holds}
use Rattle.heylo_formula.specs.Binders.{has_binder, has_binder_in}
use Rattle.heylo_formula.specs.Goals.{Compares}
use Rattle.heylo_formula.specs.declared.types.Ty.{Ty}
use Rattle.heylo_formula.specs.declared.values.Val.{Val}

-- `IsBest up ty family m`: over the values `v` of type `ty`, `m` is the supremum of `family v` if
-- `up`, otherwise the infimum. A value is at least the supremum if and only if it is at least each
-- `family v`; a value is at most the infimum if and only if it is at most each.
abbrev pub IsBest : Bool → Ty → (Val → Value) → Value → Type 0
IsBest up ty family m = (z : Value) → Compares up z m
    ↔ ((v : Val) → has ty v ≡ true → Compares up z (family v))

-- `m` is the result of the unary operator `op` for a meaning of `Part`.
pub record Mapped (op : Value → Value) (Part : Value → Type 0) (m : Value) : Type 0 where
  pub part : Value
  pub meant : Part part
  pub result : m ≡ op part

-- `m` is the result of the binary operator `op` for meanings of `First` and `Second`.
pub record Joined (op : Value → Value → Value) (First Second : Value → Type 0) (m : Value)
    : Type 0 where
  pub first : Value
  pub second : Value
  pub first_meant : First first
  pub second_meant : Second second
  pub result : m ≡ op first second

-- `m` is the best of what the body means for each value of the type.
pub record Bound (up : Bool) (ty : Ty) (Body : Val → Value → Type 0) (m : Value) : Type 0 where
  pub family : Val → Value
  pub meant : (v : Val) → has ty v ≡ true → Body v (family v)
  pub best : IsBest up ty family m

-- `A` if the flag is true, otherwise `B`.
abbrev pub Chosen : Bool → Type 0 → Type 0 → Type 0
Chosen true A B = A
Chosen false A B = B

-- `Means f s m`: the form `f` means `m` in the environment `s`. A condition of a well-typed form
-- has no binder, and hence needs no choices. For example, `sup b: Bool. [b]` means 1.
abbrev pub Means : Form → Env → Value → Type 0
Means (Form.number v) s m = m ≡ v
Means (Form.variable x) s m = m ≡ finite (number_of (s x))
Means (Form.sum a b) s m = Joined (λ x y. x +ᵛ y) (Means a s) (Means b s) m
Means (Form.difference a b) s m = Joined differenceᵛ (Means a s) (Means b s) m
Means (Form.cut a b) s m = Joined monusᵛ (Means a s) (Means b s) m
Means (Form.scale w a) s m = Mapped (λ x. finite w *ᵛ x) (Means a s) m
Means (Form.product a b span) s m = Joined (λ x y. x *ᵛ y) (Means a s) (Means b s) m
Means (Form.min a b) s m = Joined minᵛ (Means a s) (Means b s) m
Means (Form.max a b) s m = Joined maxᵛ (Means a s) (Means b s) m
Means (Form.imply a b) s m = Joined impliesᵛ (Means a s) (Means b s) m
Means (Form.co_imply a b) s m = Joined coimpliesᵛ (Means a s) (Means b s) m
Means (Form.validate a) s m = Mapped validateᵛ (Means a s) m
Means (Form.co_validate a) s m = Mapped covalidateᵛ (Means a s) m
Means (Form.embed g) s m = m ≡ (if holds g s Choices.stop then infinite else zeroᵛ)
Means (Form.iverson g) s m = m ≡ (if holds g s Choices.stop then oneᵛ else zeroᵛ)
Means (Form.select g a b) s m = Chosen (holds g s Choices.stop) (Means a s m) (Means b s m)
Means (Form.bind up x name ty a) s m = Bound up ty (λ v. Means a (put x v s)) m

-- The form is a finite constant.
abbrev pub is_number : Form → Bool
is_number (Form.number v) = is_finite v
is_number (Form.variable x) = false
is_number (Form.sum a b) = false
is_number (Form.difference a b) = false
is_number (Form.cut a b) = false
is_number (Form.scale w a) = false
is_number (Form.product a b span) = false
is_number (Form.min a b) = false
is_number (Form.max a b) = false
is_number (Form.imply a b) = false
is_number (Form.co_imply a b) = false
is_number (Form.validate a) = false
is_number (Form.co_validate a) = false
is_number (Form.embed g) = false
is_number (Form.iverson g) = false
is_number (Form.select g a b) = false
is_number (Form.bind up x name ty a) = false

-- The form is `min(a, n)` or the truncated difference `n - a`, where `a` has no binder and `n` is a
-- finite constant, so that its value is at most `n`. The probabilities of `flip` in generated forms
-- are such forms.
abbrev pub is_weight : Form → Bool
is_weight (Form.number v) = false
is_weight (Form.variable x) = false
is_weight (Form.sum a b) = false
is_weight (Form.difference a b) = false
is_weight (Form.cut a b) = is_number a && not (has_binder b)
is_weight (Form.scale w a) = false
is_weight (Form.product a b span) = false
is_weight (Form.min a b) = not (has_binder a) && is_number b
is_weight (Form.max a b) = false
is_weight (Form.imply a b) = false
is_weight (Form.co_imply a b) = false
is_weight (Form.validate a) = false
is_weight (Form.co_validate a) = false
is_weight (Form.embed g) = false
is_weight (Form.iverson g) = false
is_weight (Form.select g a b) = false
is_weight (Form.bind up x name ty a) = false

-- Every binder of the form is a supremum if `up`, otherwise an infimum, and is only below operators
-- that preserve the best value. An implication does not preserve a supremum, nor does validate; a
-- coimplication does not preserve an infimum, nor does covalidate. Generated forms have only such
-- operators above their binders.
abbrev pub is_directed : Bool → Form → Bool
is_directed up (Form.number v) = true
is_directed up (Form.variable x) = true
is_directed up (Form.sum a b) = is_directed up a && is_directed up b
is_directed up (Form.difference a b) = not (has_binder (Form.difference a b))
is_directed up (Form.cut a b) = not (has_binder (Form.cut a b))
is_directed up (Form.scale w a) = is_directed up a
is_directed up (Form.product a b span) =
    not (has_binder (Form.product a b span)) || (is_weight a && is_directed up b)
is_directed up (Form.min a b) = is_directed up a && is_directed up b
is_directed up (Form.max a b) = is_directed up a && is_directed up b
is_directed up (Form.imply a b) =
    not (has_binder a) && (if up then not (has_binder b) else is_directed up b)
is_directed up (Form.co_imply a b) =
    not (has_binder a) && (if up then is_directed up b else not (has_binder b))
is_directed up (Form.validate a) = if up then not (has_binder a) else is_directed up a
is_directed up (Form.co_validate a) = if up then is_directed up a else not (has_binder a)
is_directed up (Form.embed g) = not (has_binder_in g)
is_directed up (Form.iverson g) = not (has_binder_in g)
is_directed up (Form.select g a b) = not (has_binder_in g) && (is_directed up a && is_directed up b)
is_directed up (Form.bind d x name ty a) = agree up d && is_directed up a
