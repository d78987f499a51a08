use Rattle.std.proofs.Common.{take}
use Rattle.std.specs.List.{All}
use Rattle.linear_rows.specs.VariableTypes.{IsNumericRow}
use Rattle.row_tests.proofs.test_rows.are_over_numbers.Given as goal

abbrev pub invariant-loop-row : goal.invariant-loop-row
invariant-loop-row l = All (IsNumericRow l.vars) (take l.row-index l.rows)
