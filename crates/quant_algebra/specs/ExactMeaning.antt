-- The exact value of a formula without binders: its parts are evaluated from left to right, and
-- there is none if a number that is needed overflows. A condition evaluates only the parts that
-- decide it. A binder has no exact value. Example: the sum of `2^127 - 1` and 1 has none. This
-- project's own.
use Rattle.std.specs.Prelude.{Bool, true, false, not, List, Option, Some, None, option_map}
use Rattle.std.specs.Prelude.{if◌then◌else◌}
use Rattle.heyvl_num.specs.Value.{Value, zeroᵛ, oneᵛ}
use Rattle.heyvl_num.specs.Value.Value.{finite, infinite}
use Rattle.heyvl_num.specs.ExtendedNumbers.{value_of}
use Rattle.heyvl_num.specs.ExactValues.{exact_sumᵛ, exact_productᵛ}
use Rattle.heylo_formula.specs.Formula.{Form, Cond}
use Rattle.heylo_formula.specs.Goals.{Goal}
use Rattle.heylo_formula.specs.Operators.{validateᵛ, covalidateᵛ, agree}
use Rattle.heylo_formula.specs.State.{get, truth_of, number_of}
use Rattle.heylo_formula.specs.declared.values.Val.{Val}
use Rattle.quant_algebra.specs.ExactOperators.{and_then, exact_differenceᵛ, exact_cutᵛ}
use Rattle.quant_algebra.specs.ExactOperators.{exact_scaleᵛ, exact_minᵛ, exact_maxᵛ, exact_impliesᵛ}
use Rattle.quant_algebra.specs.ExactOperators.{exact_coimpliesᵛ, exact_leqᵛ, exact_lessᵛ}
use Rattle.quant_algebra.specs.ExactOperators.{exact_equalᵛ}
use Rattle.quant_algebra.specs.declared.answers.At.{At}
use Rattle.quant_algebra.specs.declared.answers.Held.{Held}

-- The value of an answer; nothing if a number overflowed.
abbrev pub at_of : At → Option Value
at_of (At.Value v) = Some (value_of v)
at_of At.Bits = None

-- The truth value of an answer; nothing if a number overflowed.
abbrev pub held_of : Held → Option Bool
held_of Held.Yes = Some true
held_of Held.No = Some false
held_of Held.Bits = None

-- One of two parts, by an optional truth value.
abbrev pub chosen : {A : Type 0} → Option Bool → Option A → Option A → Option A
chosen (Some true) x y = x
chosen (Some false) x y = y
chosen None x y = None

abbrev mutual
  -- The value of a formula in a list of values; nothing if a number on the way overflows.
  pub exact_value : Form → List Val → Option Value
  exact_value (Form.number v) s = Some v
  exact_value (Form.variable x) s = Some (finite (number_of (get x s)))
  exact_value (Form.sum a b) s =
      and_then (exact_value a s) (λ x. and_then (exact_value b s) (λ y. exact_sumᵛ x y))
  exact_value (Form.difference a b) s =
      and_then (exact_value a s) (λ x. and_then (exact_value b s) (λ y. exact_differenceᵛ x y))
  exact_value (Form.cut a b) s =
      and_then (exact_value a s) (λ x. and_then (exact_value b s) (λ y. exact_cutᵛ x y))
  exact_value (Form.scale w a) s = and_then (exact_value a s) (λ x. exact_scaleᵛ w x)
  exact_value (Form.product a b span) s =
      and_then (exact_value a s) (λ x. and_then (exact_value b s) (λ y. exact_productᵛ x y))
  exact_value (Form.min a b) s =
      and_then (exact_value a s) (λ x. and_then (exact_value b s) (λ y. exact_minᵛ x y))
  exact_value (Form.max a b) s =
      and_then (exact_value a s) (λ x. and_then (exact_value b s) (λ y. exact_maxᵛ x y))
  exact_value (Form.imply a b) s =
      and_then (exact_value a s) (λ x. and_then (exact_value b s) (λ y. exact_impliesᵛ x y))
  exact_value (Form.co_imply a b) s =
      and_then (exact_value a s) (λ x. and_then (exact_value b s) (λ y. exact_coimpliesᵛ x y))
  exact_value (Form.validate a) s = option_map validateᵛ (exact_value a s)
  exact_value (Form.co_validate a) s = option_map covalidateᵛ (exact_value a s)
  exact_value (Form.embed g) s = chosen (exact_truth g s) (Some infinite) (Some zeroᵛ)
  exact_value (Form.iverson g) s = chosen (exact_truth g s) (Some oneᵛ) (Some zeroᵛ)
  exact_value (Form.select g a b) s = chosen (exact_truth g s) (exact_value a s) (exact_value b s)
  exact_value (Form.bind up x name ty a) s = None

  -- The truth value of a condition in a list of values; nothing if a number on the way overflows.
  pub exact_truth : Cond → List Val → Option Bool
  exact_truth (Cond.constant b) s = Some b
  exact_truth (Cond.flag x) s = Some (truth_of (get x s))
  exact_truth (Cond.not g) s = option_map not (exact_truth g s)
  exact_truth (Cond.and g h) s = chosen (exact_truth g s) (exact_truth h s) (Some false)
  exact_truth (Cond.or g h) s = chosen (exact_truth g s) (Some true) (exact_truth h s)
  exact_truth (Cond.same g h) s =
      and_then (exact_truth g s) (λ x. and_then (exact_truth h s) (λ y. Some (agree x y)))
  exact_truth (Cond.le a b) s =
      and_then (exact_value a s) (λ x. and_then (exact_value b s) (λ y. exact_leqᵛ x y))
  exact_truth (Cond.lt a b) s =
      and_then (exact_value a s) (λ x. and_then (exact_value b s) (λ y. exact_lessᵛ x y))
  exact_truth (Cond.equal a b) s =
      and_then (exact_value a s) (λ x. and_then (exact_value b s) (λ y. exact_equalᵛ x y))
  exact_truth (Cond.ite g h k) s = chosen (exact_truth g s) (exact_truth h s) (exact_truth k s)

-- Whether the inequality of a goal holds: the values of the stated bound and of the computed form
-- are compared.
abbrev pub exact_goal : Goal → List Val → Option Bool
exact_goal g s = and_then (exact_value g.stated s)
    (λ x. and_then (exact_value g.found s) (λ y. if g.upper then exact_leqᵛ y x
    else exact_leqᵛ x y))
