use Rattle.bounded_runs.proofs.ShownBounds.{shown_bounds}
use Rattle.bounded_runs.proofs.laws.shown_bounds_hold.Goals as goal

pub returns : goal.returns
returns c = shown_bounds
