use Rattle.std.proofs.Common.{ℕ, ◌<◌, ◌^◌, get_or}
use Rattle.std.specs.Prelude.{unsigned_abs, pos}
use Rattle.linear_elim.proofs.small_joins.are_small.Given as goal

abbrev pub invariant-loop-i : goal.invariant-loop-i
invariant-loop-i l = (k : ℕ) → k < l.i → unsigned_abs (get_or l.terms k (0, pos 0)).1 < 2 ^ 20
