use Rattle.lower_rules.proofs.OmegaBounds.{omega_bounds}
use Rattle.lower_rules.proofs.laws.omega_bounds_runs.Goals as goal

pub returns : goal.returns
returns c = omega_bounds
