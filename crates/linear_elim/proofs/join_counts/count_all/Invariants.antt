use Rattle.std.proofs.Common.{◌≡◌, ℕ, List, ◌++◌, drop}
use Rattle.std.specs.Prelude.{ℤ}
use Rattle.linear_elim.specs.Joins.{Derived}
use Rattle.linear_elim.specs.Steps.{pairs_fit, pairs}
use Rattle.linear_elim.specs.internal.CountedRows.{terms_at, IsCounting}
use Rattle.linear_elim.specs.internal.GatheredRows.{found_all}
use Rattle.linear_elim.proofs.join_counts.count_all.Given as goal

abbrev pub invariant-loop-i : goal.invariant-loop-i
invariant-loop-i l = record { fits : pairs_fit l.step.var (drop l.i l.step.lows) l.step.ups ≡ pairs_fit l.step.var l.step.lows l.step.ups; found : found_all (pairs l.step.var (drop l.i l.step.lows) l.step.ups) l.out.found ≡ found_all (pairs l.step.var l.step.lows l.step.ups) l.fn.out.found; table : (more : List Derived) (all : List (List (ℕ × ℤ))) → IsCounting (terms_at l.step l.kept) l.fn.out.table (pairs l.step.var l.step.lows l.step.ups ++ more) all → IsCounting (terms_at l.step l.kept) l.out.table (pairs l.step.var (drop l.i l.step.lows) l.step.ups ++ more) all }
