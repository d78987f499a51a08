use Rattle.heylo_formula.specs.Goals.{goal_of}
use Rattle.linear_form.specs.PlainPaths.{path_of}
use Rattle.linear_form.proofs.NormalClaims.{ends_kept}
use Rattle.linear_form.proofs.RowsOfClaims.{ended}
use Rattle.linear_form.proofs.path_rows.with_denial.Goals as goal

pub with_below-requires-clause-left : goal.with_below-requires-clause-left
with_below-requires-clause-left c = (ended _ _ _ (rw c.in-End.is at c.in_ok-ask.ensures) (ends_kept (goal_of c.args.goal.now) (path_of c.args.path.now) c.requires)).0

pub with_below-requires-clause-right : goal.with_below-requires-clause-right
with_below-requires-clause-right c = (ended _ _ _ (rw c.in-End.is at c.in_ok-ask.ensures) (ends_kept (goal_of c.args.goal.now) (path_of c.args.path.now) c.requires)).1

pub with_below-requires-else-goal-clause-left : goal.with_below-requires-else-goal-clause-left
with_below-requires-else-goal-clause-left c = (ended _ _ _ (rw c.in-End.is at c.in_ok-ask.ensures) (ends_kept (goal_of c.args.goal.now) (path_of c.args.path.now) c.requires)).1

pub with_below-requires-else-goal-clause-right : goal.with_below-requires-else-goal-clause-right
with_below-requires-else-goal-clause-right c = (ended _ _ _ (rw c.in-End.is at c.in_ok-ask.ensures) (ends_kept (goal_of c.args.goal.now) (path_of c.args.path.now) c.requires)).0
