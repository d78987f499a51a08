use Rattle.std.proofs.Common.{◌≡◌, ◌<◌, ◌++◌, decimal, length}
use Rattle.cert_text.proofs.fronts.with_digits.Given as goal

abbrev pub decreases-digits : goal.decreases-digits
decreases-digits l = length l.rest

abbrev pub invariant-digits : goal.invariant-digits
invariant-digits l = (0 < l.number) × (decimal l.fn.first ++ l.fn.text ≡ decimal l.number ++ l.rest)
