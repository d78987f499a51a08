use Rattle.std.proofs.Common.{◌≡◌, drop}
use Rattle.linear_elim.specs.internal.Fingerprints.{hashed_all, fingerprint}
use Rattle.linear_elim.proofs.fingerprints.fingerprint.Given as goal

abbrev pub invariant-loop-i : goal.invariant-loop-i
invariant-loop-i l = hashed_all l.number (drop l.i l.terms) ≡ fingerprint l.fn.terms
