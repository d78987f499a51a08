use Rattle.std.proofs.Common.{◌≡◌, length}
use Rattle.std.specs.List.{filter}
use Rattle.linear_elim.proofs.LeftRows.{stays}
use Rattle.linear_elim.proofs.undominated_rows.picked.Given as goal

abbrev pub invariant-loop-r : goal.invariant-loop-r
invariant-loop-r l = record { at : l.i ≡ length l.yielded; picked : l.out.items ≡ filter (stays l.fn.rows.items) l.yielded }
