use Rattle.std.proofs.Common.{rules}
use Rattle.linear_elim.specs.internal.Fingerprints.{hashed}
use Rattle.linear_elim.proofs.fingerprints.hashed.Goals as goal

pub returns : goal.returns
unfolding hashed
returns c = search rules
