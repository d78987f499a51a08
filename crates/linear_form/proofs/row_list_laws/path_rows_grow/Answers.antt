use Rattle.linear_form.proofs.PathRowSteps.{rows_counted, path_rows_first, claims_counted}
use Rattle.linear_form.proofs.row_list_laws.path_rows_grow.Goals as goal

pub returns : goal.returns
returns c = record { counted = rows_counted; first = path_rows_first; last = claims_counted }
