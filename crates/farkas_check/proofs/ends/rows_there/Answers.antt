use Rattle.std.proofs.Common.{ap, ◌∙◌, not}
use Rattle.heylo_formula.specs.Goals.{goal_of}
use Rattle.linear_values.proofs.exported.RowParts.{ok_then}
use Rattle.linear_form.specs.PlainPaths.{path_of}
use Rattle.farkas_check.proofs.PathEnds.{question_undenied, bits_undenied, end_denied, rows_denied}
use Rattle.farkas_check.proofs.ends.rows_there.Goals as goal

pub returns-in-Decide-clause-rows : goal.returns-in-Decide-clause-rows
returns-in-Decide-clause-rows c = ok_then c.with_signs.result _ _ (λ r h. rows_denied (goal_of c.args.goal.now) (path_of c.args.path.now) r _ (question_undenied (goal_of c.args.goal.now) (path_of c.args.path.now) c.in-Decide.field-0 (rw c.in-Decide.is at c.in_ok-ask_there.ensures)) h) c.with_signs.ensures.rows

pub returns-then-holds_plainly-clause-rows : goal.returns-then-holds_plainly-clause-rows
returns-then-holds_plainly-clause-rows c = ok_then c.with_signs-then-holds_plainly.result _ _ (λ r h. rows_denied (goal_of c.args.goal.now) (path_of c.args.path.now) r _ (end_denied (goal_of c.args.goal.now) (path_of c.args.path.now) c.in-End.stated c.in-End.found c.holds_plainly.result (rw c.in-End.is at c.in_ok-ask_there.ensures) c.holds_plainly.ensures ∙ ap not c.if-holds_plainly.true) h) c.with_signs-then-holds_plainly.ensures.rows

pub with_denied_goal-requires-clause-ends : goal.with_denied_goal-requires-clause-ends
with_denied_goal-requires-clause-ends c = rw c.in-End.is at c.in_ok-ask_there.ensures

pub returns-in-End-clause-rows : goal.returns-in-End-clause-rows
returns-in-End-clause-rows c = ok_then c.with_denied_goal.result _ _ (λ r h. rows_denied (goal_of c.args.goal.now) (path_of c.args.path.now) r _ (end_denied (goal_of c.args.goal.now) (path_of c.args.path.now) c.in-End.stated c.in-End.found c.holds_plainly.result (rw c.in-End.is at c.in_ok-ask_there.ensures) c.holds_plainly.ensures ∙ ap not c.if-holds_plainly.false) h) c.with_denied_goal.ensures.rows

pub returns-clause-rows : goal.returns-clause-rows
returns-clause-rows c = ok_then c.with_signs-in-Bits.result _ _ (λ r h. rows_denied (goal_of c.args.goal.now) (path_of c.args.path.now) r _ (bits_undenied (goal_of c.args.goal.now) (path_of c.args.path.now) (rw c.in-Bits.is at c.in_ok-ask_there.ensures)) h) c.with_signs-in-Bits.ensures.rows
