use Rattle.run_laws.proofs.Bare.{violations_refute}
use Rattle.run_laws.proofs.laws.violations_refute.Goals as goal

pub returns : goal.returns
returns c = violations_refute
