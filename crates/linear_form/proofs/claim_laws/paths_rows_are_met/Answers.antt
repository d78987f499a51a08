use Rattle.linear_form.proofs.MetRows.{rows_are_met, denied_rows_are_met}
use Rattle.linear_form.proofs.claim_laws.paths_rows_are_met.Goals as goal

pub returns : goal.returns
returns c = record { answers = rows_are_met; denied = denied_rows_are_met }
