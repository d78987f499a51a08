use Rattle.std.proofs.Common.{◌≡◌, drop}
use Rattle.linear_rows.specs.Terms.{is_in}
use Rattle.linear_dominance.proofs.dominance.contains.Given as goal

abbrev pub invariant-loop-i : goal.invariant-loop-i
invariant-loop-i l = is_in l.x (drop l.i l.variables) ≡ is_in l.x l.fn.variables
