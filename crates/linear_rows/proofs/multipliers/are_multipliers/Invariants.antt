use Rattle.linear_rows.proofs.PartialSums.{Checks}
use Rattle.linear_rows.proofs.multipliers.are_multipliers.Given as goal

abbrev pub invariant-loop-index : goal.invariant-loop-index
invariant-loop-index l = Checks l.least l.index-index l.count l.multipliers
