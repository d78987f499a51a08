use Rattle.std.proofs.Common.{take, ◌≡◌}
use Rattle.region_split.proofs.pieces.copy_rows.Given as goal

-- The copied rows are those visited.
abbrev pub invariant-loop-row : goal.invariant-loop-row
invariant-loop-row l = l.made.items ≡ take l.row-index l.rows
