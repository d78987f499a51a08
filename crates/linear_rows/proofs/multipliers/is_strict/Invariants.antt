use Rattle.std.proofs.Common.{◌≡◌, drop}
use Rattle.linear_rows.specs.Combination.{uses_strict}
use Rattle.linear_rows.proofs.multipliers.is_strict.Given as goal

abbrev pub invariant-loop-index : goal.invariant-loop-index
invariant-loop-index l = uses_strict (drop l.index-index l.multipliers) l.rows ≡ uses_strict l.multipliers l.rows
