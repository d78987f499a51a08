use Rattle.std.proofs.Common.{◌≡◌, ◌++◌, drop}
use Rattle.linear_dominance.specs.DominatedRows.{signed_variables}
use Rattle.linear_elim.specs.Steps.{bare}
use Rattle.linear_elim.proofs.undominated_rows.signs_among.Given as goal

abbrev pub invariant-loop-i : goal.invariant-loop-i
invariant-loop-i l = l.signed.items ++ signed_variables (bare (drop l.i l.rows)) ≡ signed_variables (bare l.fn.rows)
