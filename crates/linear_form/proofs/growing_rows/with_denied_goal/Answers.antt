use Rattle.std.proofs.Common.{◌≡◌, ◌++◌, ap, length, refl}
use Rattle.heylo_formula.specs.Goals.{goal_of}
use Rattle.heylo_formula.specs.Typing.{types_in}
use Rattle.linear_form.specs.PathRows.{path_claims, listed, denial_at}
use Rattle.linear_values.specs.Tightening.{all_tightened}
use Rattle.linear_form.specs.Paths.{end_at}
use Rattle.linear_form.specs.PlainPaths.{path_of}
use Rattle.std.specs.Prelude.{true, Some}
use Rattle.linear_values.proofs.exported.RowParts.{ok_then}
use Rattle.linear_form.proofs.SignRows.{signed, with_denied}
use Rattle.linear_form.proofs.GrowingRows.{starts_twice, lost_twice}
use Rattle.linear_form.proofs.FoundRows.{listed_rows, few_rows, typed_rows}
use Rattle.linear_form.specs.declared.path_rows.RowList.TheVariants.{Rows}
use Rattle.linear_form.proofs.growing_rows.with_denied_goal.Goals as goal

pub returns-in-Bits-clause-rows : goal.returns-in-Bits-clause-rows
returns-in-Bits-clause-rows c = lost_twice (goal_of c.args.goal.now) (path_of c.args.path.now) c.args.rows.items (listed (denial_at (goal_of c.args.goal.now).upper (end_at (goal_of c.args.goal.now) (path_of c.args.path.now)))) _ c.requires.rows (rw c.in-Bits.is at c.in_ok-with_denial.ensures)

pub returns-in-Rows-clause-rows : goal.returns-in-Rows-clause-rows
returns-in-Rows-clause-rows c = let before : all_tightened (types_in (goal_of c.args.goal.now).types) (path_claims (path_of c.args.path.now) ++ listed (denial_at (goal_of c.args.goal.now).upper (end_at (goal_of c.args.goal.now) (path_of c.args.path.now)))) ≡ Some c.in-Rows.before.items = with_denied (goal_of c.args.goal.now).types (goal_of c.args.goal.now).types (path_claims (path_of c.args.path.now)) (listed (denial_at (goal_of c.args.goal.now).upper (end_at (goal_of c.args.goal.now) (path_of c.args.path.now)))) c.args.rows.items true (Rows c.in-Rows.before) refl refl c.requires.rows.are_rows (rw c.in-Rows.is at c.in_ok-with_denial.ensures) in ok_then c.with_signs.result _ _ (λ r h. signed _ (goal_of c.args.goal.now).types (path_claims (path_of c.args.path.now) ++ listed (denial_at (goal_of c.args.goal.now).upper (end_at (goal_of c.args.goal.now) (path_of c.args.path.now)))) c.in-Rows.before.items _ _ r c.deref.ensures.value (ap length c.deref.ensures.value) before h) c.with_signs.ensures

pub returns-in-Rows-clause-normal : goal.returns-in-Rows-clause-normal
returns-in-Rows-clause-normal c = ok_then c.with_signs.result _ _ (λ r h. listed_rows (goal_of c.args.goal.now) (path_of c.args.path.now) true r c.requires.path h) (returns-in-Rows-clause-rows c)

pub returns-in-Rows-clause-few : goal.returns-in-Rows-clause-few
returns-in-Rows-clause-few c = ok_then c.with_signs.result _ _ (λ r h. few_rows (goal_of c.args.goal.now) c.args.path.now true r c.requires.path h) (returns-in-Rows-clause-rows c)

pub returns-in-Rows-clause-numeric : goal.returns-in-Rows-clause-numeric
returns-in-Rows-clause-numeric c = λ w. ok_then c.with_signs.result _ _ (λ r h. typed_rows (goal_of c.args.goal.now) (path_of c.args.path.now) true r c.requires.path h w) (returns-in-Rows-clause-rows c)

pub returns-in-Rows-clause-first : goal.returns-in-Rows-clause-first
returns-in-Rows-clause-first c = ok_then c.with_signs.result _ _ (λ r h. starts_twice c.args.rows.items c.in-Rows.before.items _ _ r (rw c.in-Rows.is at c.in_ok-with_denial.ensures) h) c.with_signs.ensures
