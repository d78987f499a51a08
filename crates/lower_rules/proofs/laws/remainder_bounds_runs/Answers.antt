use Rattle.lower_rules.proofs.RemainderBounds.{remainder_bounds}
use Rattle.lower_rules.proofs.laws.remainder_bounds_runs.Goals as goal

pub returns : goal.returns
returns c = remainder_bounds
