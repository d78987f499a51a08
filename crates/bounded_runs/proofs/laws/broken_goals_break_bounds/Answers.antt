use Rattle.bounded_runs.proofs.Violations.{broken}
use Rattle.bounded_runs.proofs.laws.broken_goals_break_bounds.Goals as goal

pub returns : goal.returns
returns c = broken
