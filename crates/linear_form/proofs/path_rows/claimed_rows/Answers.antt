use Rattle.heylo_formula.specs.Goals.{goal_of}
use Rattle.linear_form.specs.PathRows.{path_claims, listed, denial_at}
use Rattle.linear_form.specs.Paths.{end_at}
use Rattle.linear_form.specs.PlainPaths.{path_of}
use Rattle.linear_form.proofs.NormalClaims.{answers_normal}
use Rattle.linear_values.proofs.exported.RowParts.{ok_then}
use Rattle.linear_form.proofs.SignRows.{bits_first, with_denied}
use Rattle.linear_form.proofs.path_rows.claimed_rows.Goals as goal

pub path_rows-requires : goal.path_rows-requires
path_rows-requires c = answers_normal (goal_of c.args.goal.now) (path_of c.args.path.now) c.requires

pub returns-in-Bits : goal.returns-in-Bits
returns-in-Bits c = bits_first _ _ (path_claims (path_of c.args.path.now)) _ c.deref.ensures.value (rw c.in-Bits.is at c.in_ok-path_rows.ensures)

pub returns-then-denied : goal.returns-then-denied
returns-then-denied c = ok_then c.with_denial.result _ _ (λ r h. with_denied _ _ (path_claims (path_of c.args.path.now)) (listed (denial_at (goal_of c.args.goal.now).upper (end_at (goal_of c.args.goal.now) (path_of c.args.path.now)))) c.in-Rows.rows.items c.args.denied r c.deref.ensures.value c.if-denied.true (rw c.in-Rows.is at c.in_ok-path_rows.ensures) h) c.with_denial.ensures
