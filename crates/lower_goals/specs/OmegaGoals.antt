-- The three goals of an omega pair, over the variables of the first procedure, the number of
-- iterations and binders. They say that the formula is at most 1, and that it is an omega
-- invariant: with no iteration left and with one more. This project's own.
use Rattle.std.specs.Prelude.{ℕ, List, [], ◌∷◌, ◌++◌, length, drop}
use Rattle.heyvl_num.specs.Value.{zeroᵛ, oneᵛ}
use Rattle.heylo_formula.specs.Formula.{Form, Term}
use Rattle.heylo_formula.specs.Goals.{Goal}
use Rattle.heylo_formula.specs.Substitution.{subst}
use Rattle.heyvl_acts.specs.Acts.{Head, Acts, TypedProcedure, Variable, variables}
use Rattle.vp_generator.specs.GeneratedForms.{vp}
use Rattle.lower_goals.specs.OmegaPairs.{formula_of}
use Rattle.made_goals.specs.UpperGoals.{upper_goal}
use Rattle.lower_goals.specs.declared.answers.Step.{Step}
use Rattle.lower_goals.specs.declared.answers.Step.TheVariants.{One, Base, Turn}

-- The variables of the goals: the first procedure's, then the last input of the second one, which
-- is the number of iterations.
abbrev pub goal_variables : TypedProcedure → Head → TypedProcedure → List Variable
goal_variables p h q = variables p ++ drop (length h.scope) q.inputs

-- The smaller side, where `n` is the variable of the number of iterations: the formula, the formula
-- with no iteration, or the formula with one more.
abbrev pub smaller : ℕ → Form → Step → Form
smaller n f One = f
smaller n f Base = subst n (Term.number (Form.number zeroᵛ)) f
smaller n f Turn = subst n (Term.number (Form.sum (Form.variable n) (Form.number oneᵛ))) f

-- The pre-expectation of the post over the acts after the loop.
abbrev pub after_loop : TypedProcedure → Acts → Form
after_loop p behind = vp behind p.post

-- The pre-expectation of the formula over the loop's body.
abbrev pub after_body : Acts → Form → Form
after_body body f = vp body f

-- The larger side:
-- - of `One`: 1;
-- - of `Base`: 0 if the guard holds, otherwise `after_loop`;
-- - of `Turn`: `after_body` if the guard holds, otherwise `after_loop`.
abbrev pub greater : TypedProcedure → Head → Acts → Acts → Form → Step → Form
greater p h body behind f One = Form.number oneᵛ
greater p h body behind f Base = Form.select h.guard (Form.number zeroᵛ) (after_loop p behind)
greater p h body behind f Turn = Form.select h.guard (after_body body f) (after_loop p behind)

-- The forms that have limits: the formula for `One`, `after_loop` for `Base`, and `after_body` and
-- `after_loop` for `Turn`.
abbrev pub limited : TypedProcedure → Acts → Acts → Form → Step → List Form
limited p body behind f One = f ∷ []
limited p body behind f Base = after_loop p behind ∷ []
limited p body behind f Turn = after_body body f ∷ after_loop p behind ∷ []

-- The goal of a step.
abbrev pub step_goal : TypedProcedure → Head → Acts → Acts → TypedProcedure → Step → Goal
step_goal p h body behind q step = upper_goal (goal_variables p h q)
    (greater p h body behind (formula_of p h q) step)
    (smaller (length (variables p)) (formula_of p h q) step)
