use Rattle.heylo_formula.specs.Goals.{goal_of}
use Rattle.linear_form.specs.PlainPaths.{path_of}
use Rattle.linear_form.specs.declared.path_rows.RowList.TheVariants.{Rows}
use Rattle.linear_values.proofs.exported.RowParts.{ok_then}
use Rattle.linear_form.proofs.NormalClaims.{answers_normal}
use Rattle.linear_form.proofs.GrowingRows.{last_normal}
use Rattle.linear_form.proofs.LastRows.{no_answer, answer_rows}
use Rattle.linear_form.proofs.growing_rows.last_rows.Goals as goal

pub with_answer-requires : goal.with_answer-requires
with_answer-requires c = last_normal c.args.path.now c.in-Some.field-0-1.now c.in-Some.taken.now c.in-Some.ensures.cases.0 (answers_normal (goal_of c.args.goal.now) (path_of c.args.path.now) c.requires)

pub returns-in-None : goal.returns-in-None
returns-in-None c = no_answer (goal_of c.args.goal.now) c.args.path.now (Rows c.new-none.result) c.in-None.ensures.cases

pub returns-in-Some : goal.returns-in-Some
returns-in-Some c = ok_then c.with_answer.result _ _ (λ r h. answer_rows (goal_of c.args.goal.now) c.deref.result.now c.args.path.now c.in-Some.field-0-1.now c.in-Some.taken.now c.new-none.result.items r c.deref.ensures.value c.new-none.ensures.items c.in-Some.ensures.cases.0 h) c.with_answer.ensures
