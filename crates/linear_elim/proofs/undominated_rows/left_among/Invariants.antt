use Rattle.std.proofs.Common.{◌≡◌, ◌+◌, ◌≤◌, ◌++◌, drop, length, map}
use Rattle.std.specs.List.{filter}
use Rattle.linear_elim.specs.Steps.{undominated}
use Rattle.linear_elim.proofs.LeftRows.{stays}
use Rattle.linear_elim.proofs.undominated_rows.left_among.Given as goal

abbrev pub invariant-loop-i : goal.invariant-loop-i
invariant-loop-i l = record { left : l.left.items ++ map (stays l.rows) (drop l.i l.rows) ≡ map (stays l.fn.rows) l.fn.rows; counted : l.count + length (filter (stays l.rows) (drop l.i l.rows)) ≡ length (undominated l.fn.rows); few : l.count ≤ 4096 }
