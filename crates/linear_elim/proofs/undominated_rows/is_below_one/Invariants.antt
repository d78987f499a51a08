use Rattle.std.proofs.Common.{◌≡◌, drop}
use Rattle.std.specs.List.{list_any}
use Rattle.linear_dominance.specs.DominatedRows.{dominates}
use Rattle.linear_elim.specs.Steps.{bare}
use Rattle.linear_elim.proofs.undominated_rows.is_below_one.Given as goal

abbrev pub invariant-loop-i : goal.invariant-loop-i
invariant-loop-i l = list_any (λ s. dominates l.signed s l.r.row) (bare (drop l.i l.rows)) ≡ list_any (λ s. dominates l.fn.signed s l.fn.r.row) (bare l.fn.rows)
