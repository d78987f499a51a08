use Rattle.std.proofs.Common.{◌≤◌, ◌^◌, take}
use Rattle.std.specs.List.{All}
use Rattle.linear_rows.specs.internal.Columns.{IsBeyondAt}
use Rattle.linear_rows.proofs.multipliers.beyond_used.Given as goal

abbrev pub invariant-loop-index : goal.invariant-loop-index
invariant-loop-index l = record { above : All (IsBeyondAt l.least l.rows) (take l.index-index l.multipliers); within : l.least ≤ 2 ^ 32 }
