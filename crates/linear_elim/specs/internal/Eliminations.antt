-- The result of an elimination, for the choice of a point.
use Rattle.heylo_formula.specs.declared.types.Ty.{Ty}
use Rattle.linear_elim.specs.Answers.{eliminated_by}
use Rattle.linear_elim.specs.Elimination as plain
use Rattle.linear_elim.specs.Elimination.{Step}
use Rattle.linear_rows.specs.Row.{Row, IsRow}
use Rattle.linear_rows.specs.VariableTypes.{IsNumericRow}
use Rattle.linear_rows.specs.Terms.{IsOver}
use Rattle.linear_rows.specs.VariableOrder.{order_of}
use Rattle.std.specs.List.{All}
use Rattle.std.specs.Prelude.{◌≡◌, List, length}

-- `IsEliminated rows vars steps`: the elimination of `rows` by a rule ends without a contradiction,
-- after `steps`.
pub record IsEliminated (rows : List Row) (vars : List Ty) (steps : List Step) : Type 0 where
  pub are_rows : All IsRow rows
  pub numeric : All (IsNumericRow vars) rows
  pub over : All (λ r. IsOver (order_of rows (length vars)) r.terms) rows
  pub rule : plain.Rule
  pub standing : eliminated_by rule rows vars ≡ plain.Outcome.standing steps
