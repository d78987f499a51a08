use Rattle.std.proofs.Common.{◌≡◌, drop}
use Rattle.linear_rows.specs.Terms.{coefficient, IsNormal}
use Rattle.linear_rows.proofs.terms.coefficient_of.Given as goal

abbrev pub invariant-loop-v : goal.invariant-loop-v
invariant-loop-v l = record { grows : IsNormal (drop l.v-index l.terms); rest : coefficient l.x (drop l.v-index l.terms) ≡ coefficient l.fn.x l.fn.terms }
