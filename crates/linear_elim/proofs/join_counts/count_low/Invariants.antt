use Rattle.std.proofs.Common.{◌≡◌, ℕ, List, ◌++◌, drop}
use Rattle.std.specs.Prelude.{ℤ}
use Rattle.linear_elim.specs.Joins.{Derived}
use Rattle.linear_elim.specs.Steps.{fits_each, joins}
use Rattle.linear_elim.specs.internal.CountedRows.{nth, terms_at, IsCounting}
use Rattle.linear_elim.specs.internal.GatheredRows.{found_all}
use Rattle.linear_elim.proofs.join_counts.count_low.Given as goal

abbrev pub invariant-loop-j : goal.invariant-loop-j
invariant-loop-j l = record { fits : fits_each l.step.var (nth l.step.lows l.i) (drop l.j l.step.ups) ≡ fits_each l.step.var (nth l.step.lows l.i) l.step.ups; found : found_all (joins l.step.var (nth l.step.lows l.i) (drop l.j l.step.ups)) l.out.found ≡ found_all (joins l.step.var (nth l.step.lows l.i) l.step.ups) l.fn.out.found; table : (more : List Derived) (all : List (List (ℕ × ℤ))) → IsCounting (terms_at l.step l.kept) l.fn.out.table (joins l.step.var (nth l.step.lows l.i) l.step.ups ++ more) all → IsCounting (terms_at l.step l.kept) l.out.table (joins l.step.var (nth l.step.lows l.i) (drop l.j l.step.ups) ++ more) all }
