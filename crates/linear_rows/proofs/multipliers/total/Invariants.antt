use Rattle.linear_rows.specs.internal.Columns.{number_in}
use Rattle.linear_rows.proofs.PartialSums.{Sums}
use Rattle.linear_rows.proofs.multipliers.total.Given as goal

abbrev pub invariant-loop-index : goal.invariant-loop-index
invariant-loop-index l = Sums (number_in l.column) l.sum l.index-index l.multipliers l.rows
