use Rattle.std.proofs.Common.{subst}
use Rattle.linear_form.specs.PathRows.{listed, denial_at}
use Rattle.linear_form.specs.RowLists.{Lists}
use Rattle.heylo_formula.specs.Goals.{goal_of}
use Rattle.linear_form.specs.PlainPaths.{path_of}
use Rattle.linear_form.specs.Paths.{end_at}
use Rattle.linear_form.specs.internal.FurtherRows.{rows_with}
use Rattle.heylo_formula.specs.Typing.{types_in}
use Rattle.linear_values.proofs.exported.RowParts.{ok_then}
use Rattle.linear_form.proofs.NormalClaims.{ends_kept}
use Rattle.linear_form.proofs.RowsOfClaims.{ended}
use Rattle.linear_form.proofs.GrowingRows.{upper_denied, lower_denied}
use Rattle.linear_form.proofs.growing_rows.with_denial.Goals as goal

pub with_below-requires-clause-left : goal.with_below-requires-clause-left
with_below-requires-clause-left c = (ended _ _ _ c.requires.ends (ends_kept (goal_of c.args.goal.now) (path_of c.args.path.now) c.requires.path)).0

pub with_below-requires-clause-right : goal.with_below-requires-clause-right
with_below-requires-clause-right c = (ended _ _ _ c.requires.ends (ends_kept (goal_of c.args.goal.now) (path_of c.args.path.now) c.requires.path)).1

pub with_below-requires-else-goal-clause-left : goal.with_below-requires-else-goal-clause-left
with_below-requires-else-goal-clause-left c = (ended _ _ _ c.requires.ends (ends_kept (goal_of c.args.goal.now) (path_of c.args.path.now) c.requires.path)).1

pub with_below-requires-else-goal-clause-right : goal.with_below-requires-else-goal-clause-right
with_below-requires-else-goal-clause-right c = (ended _ _ _ c.requires.ends (ends_kept (goal_of c.args.goal.now) (path_of c.args.path.now) c.requires.path)).0

pub returns-then-goal : goal.returns-then-goal
returns-then-goal c = ok_then c.with_below.result _ _ (λ r h. subst (λ z. Lists r (rows_with (types_in z) c.args.rows.items (listed (denial_at (goal_of c.args.goal.now).upper (end_at (goal_of c.args.goal.now) (path_of c.args.path.now)))))) c.deref.ensures.value (upper_denied (goal_of c.args.goal.now).upper c.args.stated.now c.args.found.now (end_at (goal_of c.args.goal.now) (path_of c.args.path.now)) r (rows_with (types_in c.deref.result.now) c.args.rows.items) c.if-goal.true c.requires.ends h)) c.with_below.ensures

pub returns-else-goal : goal.returns-else-goal
returns-else-goal c = ok_then c.with_below-else-goal.result _ _ (λ r h. subst (λ z. Lists r (rows_with (types_in z) c.args.rows.items (listed (denial_at (goal_of c.args.goal.now).upper (end_at (goal_of c.args.goal.now) (path_of c.args.path.now)))))) c.deref-else-goal.ensures.value (lower_denied (goal_of c.args.goal.now).upper c.args.stated.now c.args.found.now (end_at (goal_of c.args.goal.now) (path_of c.args.path.now)) r (rows_with (types_in c.deref-else-goal.result.now) c.args.rows.items) c.if-goal.false c.requires.ends h)) c.with_below-else-goal.ensures
