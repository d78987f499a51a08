use Rattle.std.proofs.Common.{◌≡◌, ◌++◌, drop, take}
use Rattle.linear_rows.specs.Divisors.{divided_terms}
use Rattle.linear_elim.proofs.small_joins.divide.Given as goal

abbrev pub invariant-loop-i : goal.invariant-loop-i
invariant-loop-i l = l.terms.items ≡ divided_terms l.divisor (take l.i l.fn.terms.items) ++ drop l.i l.fn.terms.items
