use Rattle.std.proofs.Common.{refl, sym, ap, ◌∙◌, true, false}
use Rattle.heylo_formula.specs.Goals.{goal_of}
use Rattle.heylo_formula.specs.Typing.{types_in}
use Rattle.linear_rows.specs.VariableTypes.{is_integral}
use Rattle.linear_form.specs.PlainPaths.{path_of}
use Rattle.farkas_check.proofs.PathEnds.{question_unsplit, bits_unsplit, end_splits}
use Rattle.farkas_check.proofs.ends.can_split.Goals as goal

pub returns-in-Decide : goal.returns-in-Decide
returns-in-Decide c = (λ e. absurd (cc), λ k. absurd (question_unsplit (goal_of c.args.goal.now) (path_of c.args.path.now) c.args.variable c.in-Decide.field-0 (rw c.in-Decide.is at c.in_ok-ask_there.ensures) k))

pub returns-then-holds_plainly : goal.returns-then-holds_plainly
returns-then-holds_plainly c = end_splits (goal_of c.args.goal.now) (path_of c.args.path.now) c.args.variable c.in-End.stated c.in-End.found true (is_integral (types_in (goal_of c.args.goal.now).types c.args.variable)) (rw c.in-End.is at c.in_ok-ask_there.ensures) (sym c.if-holds_plainly.true ∙ c.holds_plainly.ensures) refl

pub returns-in-End : goal.returns-in-End
returns-in-End c = end_splits (goal_of c.args.goal.now) (path_of c.args.path.now) c.args.variable c.in-End.stated c.in-End.found false c.is_whole.result (rw c.in-End.is at c.in_ok-ask_there.ensures) (sym c.if-holds_plainly.false ∙ c.holds_plainly.ensures) (c.is_whole.ensures ∙ ap (λ ts. is_integral (types_in ts c.args.variable)) c.deref.ensures.value)

pub returns : goal.returns
returns c = (λ e. absurd (cc), λ k. absurd (bits_unsplit (goal_of c.args.goal.now) (path_of c.args.path.now) c.args.variable (rw c.in-Bits.is at c.in_ok-ask_there.ensures) k))
