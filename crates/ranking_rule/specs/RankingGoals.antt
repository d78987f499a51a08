-- The goal of a ranking. The ranking is the stated bound; the computed form is the step plus the
-- pre-expectation of the ranking over an iteration. Its variables are the procedure's and those of
-- binders. This project's own.
use Rattle.std.specs.Prelude.{true}
use Rattle.heyvl_num.specs.Rational.{Rational}
use Rattle.heyvl_num.specs.Value.{zeroᵛ}
use Rattle.heyvl_num.specs.Value.Value.{finite}
use Rattle.heylo_formula.specs.Formula.{Cond, Form}
use Rattle.heylo_formula.specs.Goals.{Goal}
use Rattle.heylo_formula.specs.declared.goals.Made.{Made}
use Rattle.heyvl_acts.specs.Acts.{Head, Acts, TypedProcedure, variables}
use Rattle.vp_generator.specs.GeneratedForms.{vp}
use Rattle.made_goals.specs.MadeGoals.{goal_over}
use Rattle.vp_generator.specs.PrenexedGoals.{IsMadeWithin}
use Rattle.heyvl_acts.specs.Upward.{upward}

-- The pre-expectation of the ranking over the body.
abbrev pub generated : Acts → Rational × Form → Form
generated b r = vp (upward b) r.1

-- The step `e` plus the form `f` if the guard `g` holds, otherwise 0.
abbrev pub tested : Cond → Rational → Form → Form
tested g e f = Form.select g (Form.sum (Form.number (finite e)) f) (Form.number zeroᵛ)

-- The computed form with its binders: the step plus the generated form if the guard holds,
-- otherwise 0.
abbrev pub found : Head → Acts → Rational × Form → Form
found h b r = tested h.guard r.0 (generated b r)

-- The goal of the ranking, in which each binder of the computed form is a variable.
abbrev pub goal : TypedProcedure → Head → Acts → Rational × Form → Goal
goal p h b r = goal_over true (variables p) r.1 (found h b r)

-- The result for a ranking: its goal, or a limit that the generated form exceeds. The guard and the
-- step do not count.
abbrev pub IsMadeOf : TypedProcedure → Head → Acts → Rational × Form → Made → Type 0
IsMadeOf p h b r m = IsMadeWithin (generated b r) (goal p h b r) m
