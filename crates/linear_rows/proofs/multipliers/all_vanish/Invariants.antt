use Rattle.std.proofs.Common.{ℕ, ◌<◌}
use Rattle.linear_rows.specs.internal.Columns.{Vanishes}
use Rattle.linear_rows.proofs.multipliers.all_vanish.Given as goal

abbrev pub invariant-loop-variable : goal.invariant-loop-variable
invariant-loop-variable l = (x : ℕ) → x < l.variable → Vanishes x l.multipliers l.rows
