use Rattle.std.proofs.Common.{◌≡◌, ◌++◌, drop}
use Rattle.linear_rows.specs.TermResults.{are_narrow}
use Rattle.linear_rows.specs.Divisors.{divided_terms}
use Rattle.linear_rows.proofs.terms.divided.Given as goal

abbrev pub invariant-loop-v : goal.invariant-loop-v
invariant-loop-v l = record { so_far : l.out.items ++ divided_terms l.divisor (drop l.v-index l.terms) ≡ divided_terms l.fn.divisor l.fn.terms; fits : are_narrow (divided_terms l.divisor (drop l.v-index l.terms)) ≡ are_narrow (divided_terms l.fn.divisor l.fn.terms) }
