use Rattle.linear_form.proofs.DeniedRows.{denied_more, denied_stronger}
use Rattle.linear_form.proofs.DeniedGoalPlaces.{denied_makes_room}
use Rattle.linear_form.proofs.row_list_laws.denied_rows_are_more.Goals as goal

pub returns : goal.returns
returns c = record { among = denied_more; solvable = denied_stronger; places = denied_makes_room }
