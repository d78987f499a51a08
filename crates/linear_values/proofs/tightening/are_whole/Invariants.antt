use Rattle.std.proofs.Common.{◌≡◌, length}
use Rattle.heylo_formula.specs.Typing.{types_in}
use Rattle.linear_values.specs.Tightening.{are_whole}
use Rattle.linear_values.proofs.tightening.are_whole.Given as goal

abbrev pub decreases-terms : goal.decreases-terms
decreases-terms l = length l.rest

abbrev pub invariant-terms : goal.invariant-terms
invariant-terms l = are_whole (types_in l.fn.types) l.fn.terms ≡ are_whole (types_in l.fn.types) l.rest
