use Rattle.std.proofs.Common.{◌++◌, [], cond, refl, ap, length}
use Rattle.heylo_formula.specs.Goals.{goal_of}
use Rattle.linear_form.specs.PathRows.{path_claims, listed, denial_at}
use Rattle.linear_form.specs.Paths.{end_at}
use Rattle.linear_form.specs.PlainPaths.{path_of}
use Rattle.linear_values.proofs.exported.RowParts.{ok_then}
use Rattle.linear_form.proofs.SignRows.{bits_first, signed}
use Rattle.linear_form.proofs.FoundRows.{listed_rows, few_rows, typed_rows}
use Rattle.linear_form.proofs.path_rows.rows.Goals as goal

pub returns-in-Bits-clause-rows : goal.returns-in-Bits-clause-rows
returns-in-Bits-clause-rows c = bits_first (goal_of c.args.goal.now).types _ (path_claims (path_of c.args.path.now) ++ cond c.args.denied (listed (denial_at (goal_of c.args.goal.now).upper (end_at (goal_of c.args.goal.now) (path_of c.args.path.now)))) []) _ refl (rw c.in-Bits.is at c.in_ok-claimed_rows.ensures)

pub returns-in-Rows-clause-rows : goal.returns-in-Rows-clause-rows
returns-in-Rows-clause-rows c = ok_then c.with_signs.result _ _ (λ r h. signed _ (goal_of c.args.goal.now).types (path_claims (path_of c.args.path.now) ++ cond c.args.denied (listed (denial_at (goal_of c.args.goal.now).upper (end_at (goal_of c.args.goal.now) (path_of c.args.path.now)))) []) c.in-Rows.before.items _ _ r c.deref.ensures.value (ap length c.deref.ensures.value) (rw c.in-Rows.is at c.in_ok-claimed_rows.ensures) h) c.with_signs.ensures

pub returns-in-Rows-clause-normal : goal.returns-in-Rows-clause-normal
returns-in-Rows-clause-normal c = ok_then c.with_signs.result _ _ (λ r h. listed_rows (goal_of c.args.goal.now) (path_of c.args.path.now) c.args.denied r c.requires h) (returns-in-Rows-clause-rows c)

pub returns-in-Rows-clause-few : goal.returns-in-Rows-clause-few
returns-in-Rows-clause-few c = ok_then c.with_signs.result _ _ (λ r h. few_rows (goal_of c.args.goal.now) c.args.path.now c.args.denied r c.requires h) (returns-in-Rows-clause-rows c)

pub returns-in-Rows-clause-numeric : goal.returns-in-Rows-clause-numeric
returns-in-Rows-clause-numeric c = λ w. ok_then c.with_signs.result _ _ (λ r h. typed_rows (goal_of c.args.goal.now) (path_of c.args.path.now) c.args.denied r c.requires h w) (returns-in-Rows-clause-rows c)
