-- Forms, conditions and terms with and without binders.
use Rattle.std.specs.Prelude.{◌≡◌, Bool, true, false, ◌||◌}
use Rattle.heylo_formula.specs.Formula.{Form, Cond, Term}
use Rattle.heylo_formula.specs.Operators.{is_finite}
use Rattle.heylo_formula.specs.State.{Env}
use Rattle.heylo_formula.specs.Choices.{Choices}
use Rattle.heylo_formula.specs.Meaning.{value}

abbrev mutual
  -- The form contains an infimum or a supremum.
  pub has_binder : Form → Bool
  has_binder (Form.number v) = false
  has_binder (Form.variable x) = false
  has_binder (Form.sum a b) = has_binder a || has_binder b
  has_binder (Form.difference a b) = has_binder a || has_binder b
  has_binder (Form.cut a b) = has_binder a || has_binder b
  has_binder (Form.scale w a) = has_binder a
  has_binder (Form.product a b span) = has_binder a || has_binder b
  has_binder (Form.min a b) = has_binder a || has_binder b
  has_binder (Form.max a b) = has_binder a || has_binder b
  has_binder (Form.imply a b) = has_binder a || has_binder b
  has_binder (Form.co_imply a b) = has_binder a || has_binder b
  has_binder (Form.validate a) = has_binder a
  has_binder (Form.co_validate a) = has_binder a
  has_binder (Form.embed g) = has_binder_in g
  has_binder (Form.iverson g) = has_binder_in g
  has_binder (Form.select g a b) = has_binder_in g || (has_binder a || has_binder b)
  has_binder (Form.bind up y name ty a) = true

  -- The condition contains an infimum or a supremum.
  pub has_binder_in : Cond → Bool
  has_binder_in (Cond.constant b) = false
  has_binder_in (Cond.flag x) = false
  has_binder_in (Cond.not g) = has_binder_in g
  has_binder_in (Cond.and g h) = has_binder_in g || has_binder_in h
  has_binder_in (Cond.or g h) = has_binder_in g || has_binder_in h
  has_binder_in (Cond.same g h) = has_binder_in g || has_binder_in h
  has_binder_in (Cond.le a b) = has_binder a || has_binder b
  has_binder_in (Cond.lt a b) = has_binder a || has_binder b
  has_binder_in (Cond.equal a b) = has_binder a || has_binder b
  has_binder_in (Cond.ite g h k) = has_binder_in g || (has_binder_in h || has_binder_in k)

-- A term that may be substituted for a variable: it has no binder, and a number has a finite value
-- in every state.
abbrev pub IsPlain : Term → Type 0
IsPlain (Term.truth g) = has_binder_in g ≡ false
IsPlain (Term.number f) = (has_binder f ≡ false)
    × ((s : Env) → is_finite (value f s Choices.stop) ≡ true)
