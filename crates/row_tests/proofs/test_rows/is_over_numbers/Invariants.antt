use Rattle.std.proofs.Common.{◌≡◌, take, true}
use Rattle.std.specs.List.{All}
use Rattle.linear_rows.specs.VariableTypes.{is_numeric}
use Rattle.heylo_formula.specs.Typing.{types_in}
use Rattle.row_tests.proofs.test_rows.is_over_numbers.Given as goal

abbrev pub invariant-loop-variable : goal.invariant-loop-variable
invariant-loop-variable l = All (λ t. is_numeric (types_in l.vars t.0) ≡ true) (take l.variable-index l.variable-items)
