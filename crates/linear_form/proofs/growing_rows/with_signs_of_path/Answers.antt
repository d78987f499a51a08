use Rattle.std.proofs.Common.{[], ◌++◌, ap, length}
use Rattle.heylo_formula.specs.Goals.{goal_of}
use Rattle.linear_form.specs.PathRows.{path_claims}
use Rattle.linear_form.specs.PlainPaths.{path_of}
use Rattle.std.specs.Prelude.{false}
use Rattle.linear_values.proofs.exported.RowParts.{ok_then}
use Rattle.linear_form.proofs.SignRows.{signed}
use Rattle.linear_form.proofs.GrowingRows.{starts, path_rows_only}
use Rattle.linear_form.proofs.FoundRows.{listed_rows, few_rows, typed_rows}
use Rattle.linear_form.proofs.growing_rows.with_signs_of_path.Goals as goal

pub returns-clause-rows : goal.returns-clause-rows
returns-clause-rows c = ok_then c.with_noted_signs.result _ _ (λ r h. signed _ (goal_of c.args.goal.now).types (path_claims (path_of c.args.path.now) ++ []) c.args.rows.items _ _ r c.deref.ensures.value (ap length c.deref.ensures.value) (path_rows_only (goal_of c.args.goal.now) (path_of c.args.path.now) c.args.rows.items c.requires.rows) h) c.with_noted_signs.ensures

pub returns-clause-normal : goal.returns-clause-normal
returns-clause-normal c = ok_then c.with_noted_signs.result _ _ (λ r h. listed_rows (goal_of c.args.goal.now) (path_of c.args.path.now) false r c.requires.path h) (returns-clause-rows c)

pub returns-clause-few : goal.returns-clause-few
returns-clause-few c = ok_then c.with_noted_signs.result _ _ (λ r h. few_rows (goal_of c.args.goal.now) c.args.path.now false r c.requires.path h) (returns-clause-rows c)

pub returns-clause-numeric : goal.returns-clause-numeric
returns-clause-numeric c = λ w. ok_then c.with_noted_signs.result _ _ (λ r h. typed_rows (goal_of c.args.goal.now) (path_of c.args.path.now) false r c.requires.path h w) (returns-clause-rows c)

pub returns-clause-first : goal.returns-clause-first
returns-clause-first c = ok_then c.with_noted_signs.result _ _ (λ r h. starts c.args.rows.items _ r h) c.with_noted_signs.ensures
