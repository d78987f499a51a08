use Rattle.linear_form.proofs.Truths.{truths_booleans, truths_variables}
use Rattle.linear_form.proofs.point_laws.truths_are_booleans.Goals as goal

pub returns : goal.returns
returns c = record { booleans = truths_booleans; variables = truths_variables }
