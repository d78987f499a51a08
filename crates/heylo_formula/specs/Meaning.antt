-- The meaning of forms, conditions and terms in a state, where a choice tree gives each binder its
-- value. Source: HeyLo, the logic of HeyVL (Schroeer, Batz, Kaminski, Katoen, Matheja, OOPSLA
-- 2023); choice trees are this project's own.
use Rattle.std.specs.Prelude.{Bool, not, ◌&&◌, ◌||◌, if◌then◌else◌}
use Rattle.heyvl_num.specs.Value.{Value, zeroᵛ, oneᵛ, leqᵛ, ◌+ᵛ◌, ◌*ᵛ◌}
use Rattle.heyvl_num.specs.Value.Value.{finite, infinite}
use Rattle.heyvl_num.specs.ValueOperators.{minᵛ, maxᵛ, impliesᵛ, coimpliesᵛ, monusᵛ}
use Rattle.heylo_formula.specs.Operators.{differenceᵛ, validateᵛ, covalidateᵛ, lessᵛ, equalᵛ, agree}
use Rattle.heylo_formula.specs.Operators.{finite_part}
use Rattle.heylo_formula.specs.State.{Env, put, fit, truth_of, number_of}
use Rattle.heylo_formula.specs.Choices.{Choices, here, left, right}
use Rattle.heylo_formula.specs.Formula.{Form, Cond, Term}
use Rattle.heylo_formula.specs.declared.values.Val.{Val}
use Rattle.heylo_formula.specs.declared.values.Val.TheVariants.{Truth, Num}

abbrev mutual
  -- `value f s c`: the value of the form `f` in the environment `s`, with the choices `c` for its
  -- binders. If `c` chooses 3, the value of `sup x1: UReal. x1` is 3.
  pub value : Form → Env → Choices → Value
  value (Form.number v) s c = v
  value (Form.variable x) s c = finite (number_of (s x))
  value (Form.sum a b) s c = value a s (left c) +ᵛ value b s (right c)
  value (Form.difference a b) s c = differenceᵛ (value a s (left c)) (value b s (right c))
  value (Form.cut a b) s c = monusᵛ (value a s (left c)) (value b s (right c))
  value (Form.scale w a) s c = finite w *ᵛ value a s c
  value (Form.product a b span) s c = value a s (left c) *ᵛ value b s (right c)
  value (Form.min a b) s c = minᵛ (value a s (left c)) (value b s (right c))
  value (Form.max a b) s c = maxᵛ (value a s (left c)) (value b s (right c))
  value (Form.imply a b) s c = impliesᵛ (value a s (left c)) (value b s (right c))
  value (Form.co_imply a b) s c = coimpliesᵛ (value a s (left c)) (value b s (right c))
  value (Form.validate a) s c = validateᵛ (value a s c)
  value (Form.co_validate a) s c = covalidateᵛ (value a s c)
  value (Form.embed g) s c = if holds g s c then infinite else zeroᵛ
  value (Form.iverson g) s c = if holds g s c then oneᵛ else zeroᵛ
  value (Form.select g a b) s c = if holds g s (left c) then value a s (right c)
      else value b s (right c)
  value (Form.bind up x name ty a) s c = value a (put x (fit ty (here c)) s) (left c)

  -- `holds g s c`: the condition `g` is true in the environment `s`, with the choices `c` for its
  -- binders.
  pub holds : Cond → Env → Choices → Bool
  holds (Cond.constant b) s c = b
  holds (Cond.flag x) s c = truth_of (s x)
  holds (Cond.not g) s c = not (holds g s c)
  holds (Cond.and g h) s c = holds g s (left c) && holds h s (right c)
  holds (Cond.or g h) s c = holds g s (left c) || holds h s (right c)
  holds (Cond.same g h) s c = agree (holds g s (left c)) (holds h s (right c))
  holds (Cond.le a b) s c = leqᵛ (value a s (left c)) (value b s (right c))
  holds (Cond.lt a b) s c = lessᵛ (value a s (left c)) (value b s (right c))
  holds (Cond.equal a b) s c = equalᵛ (value a s (left c)) (value b s (right c))
  holds (Cond.ite g h k) s c = if holds g s (left c) then holds h s (right c)
      else holds k s (right c)

-- The value of a term. A term has no binder, and hence needs no choices.
abbrev pub term_value : Term → Env → Val
term_value (Term.truth g) s = Truth (holds g s Choices.stop)
term_value (Term.number f) s = Num (finite_part (value f s Choices.stop))
