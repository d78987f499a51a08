use Rattle.std.proofs.Common.{length}
use Rattle.cert_text.proofs.Multipliers.{IsRead}
use Rattle.cert_text.proofs.lines.multipliers.Given as goal

abbrev pub decreases-loop-rest : goal.decreases-loop-rest
decreases-loop-rest l = length l.rest

abbrev pub invariant-loop-rest : goal.invariant-loop-rest
invariant-loop-rest l = IsRead l.fn.text l.rest l.found.items l.least
