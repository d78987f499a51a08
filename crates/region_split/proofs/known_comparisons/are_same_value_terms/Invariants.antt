use Rattle.std.proofs.Common.{◌≡◌, length}
use Rattle.region_split.proofs.known_comparisons.are_same_value_terms.Given as goal

abbrev pub invariant-terms : goal.invariant-terms
invariant-terms l = l.first ≡ l.second → l.fn.a ≡ l.fn.b

abbrev pub decreases-terms : goal.decreases-terms
decreases-terms l = length l.first
