use Rattle.std.proofs.Common.{◌<◌, ◌≤◌, ◌^◌, take}
use Rattle.std.specs.List.{All}
use Rattle.linear_rows.proofs.multipliers.beyond.Given as goal

abbrev pub invariant-loop-variable : goal.invariant-loop-variable
invariant-loop-variable l = record { above : All (λ t. t.0 < l.least) (take l.variable-index l.terms); within : l.least ≤ 2 ^ 32 }
