use Rattle.linear_form.proofs.RepeatedRows.{repeated_stand}
use Rattle.linear_form.proofs.row_list_laws.repeated_rows_stand.Goals as goal

pub returns : goal.returns
returns c = repeated_stand
