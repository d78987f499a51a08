-- The inequality of each goal of a procedure, and the goal without binders that is made of it. This
-- project's own.
use Rattle.std.specs.List.{AllZip}
use Rattle.std.specs.Prelude.{◌≡◌, ℕ, Bool, true, List, Option, Some, None}
use Rattle.heyvl_num.specs.Value.{oneᵛ, zeroᵛ}
use Rattle.heylo_formula.specs.Formula.{Form}
use Rattle.heylo_formula.specs.Goals.{Goal}
use Rattle.heylo_formula.specs.declared.goals.Made.{Made}
use Rattle.heyvl_acts.specs.Acts.{TypedProcedure, Variable, variables, acts_in, procedure_at}
use Rattle.heyvl_acts.specs.Places.{in_order}
use Rattle.loop_encodings.specs.BoundGoals.{BoundGoal, goal_id, invariant_in}
use Rattle.loop_encodings.specs.Encoding.{all_variables, encoding}
use Rattle.made_goals.specs.MadeGoals.{goal_over}
use Rattle.vp_generator.specs.PrenexedGoals.{IsMadeWithin}
use Rattle.goal_answers.specs.declared.named_goals.NamedGoal.{NamedGoal}
use Rattle.vp_generator.specs.GeneratedForms.{vp}

-- An inequality between two formulas over `variables`. If `upper`, `stated` is to be at least
-- `found`; otherwise at most. `found` may have binders.
pub record Question : Type 0 where
  pub upper : Bool
  pub stated : Form
  pub found : Form
  pub variables : List Variable

-- The question whether `f`, a formula over the variables of `p`, is at most 1.
abbrev pub one_bound : TypedProcedure → Form → Question
one_bound p f = record {
  upper = true;
  stated = Form.number oneᵛ;
  found = f;
  variables = variables p;
}

-- The form, or 0 if there is none.
abbrev pub form_or_zero : Option Form → Form
form_or_zero (Some f) = f
form_or_zero None = Form.number zeroᵛ

-- The question of a goal of a bound. The main goal compares the pre with the pre-expectation of the
-- encoded body; the others ask whether a formula is at most 1.
abbrev pub question : List TypedProcedure → TypedProcedure → BoundGoal → Question
question ps p BoundGoal.main = record {
  upper = p.co;
  stated = p.pre;
  found = vp (encoding ps p) p.post;
  variables = all_variables ps p;
}
question ps p BoundGoal.pre = one_bound p p.pre
question ps p BoundGoal.post = one_bound p p.post
question ps p (BoundGoal.invariant n) =
    one_bound p (form_or_zero (invariant_in n (in_order (acts_in p.body))))

-- The goal of a question, in which each binder of `found` has become a variable.
abbrev pub goal : Question → Goal
goal q = goal_over q.upper q.variables q.stated q.found

-- `IsMadeOf q m`: `m` is the goal of `q`, or the limit that its computed form passes.
abbrev pub IsMadeOf : Question → Made → Type 0
IsMadeOf q m = IsMadeWithin q.found (goal q) m

-- `g` is the goal `asked` of the bound of the procedure with the number `p`.
pub record IsGoalOf (ps : List TypedProcedure) (p : ℕ) (asked : BoundGoal) (g : NamedGoal)
    : Type 0 where
  pub proc : g.proc ≡ p
  pub id_of : g.id ≡ goal_id asked
  pub made : IsMadeOf (question ps (procedure_at ps p) asked) g.made

-- `gs` are the goals `asked` of the bound of the procedure with the number `p`, in their order.
abbrev pub AreGoals : List TypedProcedure → ℕ → List BoundGoal → List NamedGoal → Type 0
AreGoals ps p asked gs = AllZip (IsGoalOf ps p) asked gs
