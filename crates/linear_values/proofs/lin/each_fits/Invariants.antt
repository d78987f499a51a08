use Rattle.std.proofs.Common.{◌≡◌, length}
use Rattle.linear_values.specs.Lin.{all_fit}
use Rattle.linear_values.proofs.lin.each_fits.Given as goal

abbrev pub decreases-terms : goal.decreases-terms
decreases-terms l = length l.rest

abbrev pub invariant-terms : goal.invariant-terms
invariant-terms l = all_fit l.fn.terms ≡ all_fit l.rest
