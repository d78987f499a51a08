use Rattle.linear_form.proofs.NumericRows.{numeric_rows}
use Rattle.linear_form.proofs.row_list_laws.rows_are_numeric.Goals as goal

pub returns : goal.returns
returns c = numeric_rows
