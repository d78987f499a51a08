use Rattle.std.proofs.Common.{refl, rules, subst}
use Rattle.linear_form.specs.internal.Run.{along}
use Rattle.linear_form.specs.internal.EvaluationResults.{GivesTruth}
use Rattle.linear_form.proofs.OperatedOutcomes.{comes_stopped}
use Rattle.linear_form.proofs.Runs.{stops_told, told_run}
use Rattle.linear_form.proofs.operations.truth_came.Goals as goal

pub returns-in_err-holds : goal.returns-in_err-holds
returns-in_err-holds c = λ ps q i h. comes_stopped _ _ _ (search rules) (stops_told c.in_err-holds.field-0.0 ps q q i refl (subst (λ r. GivesTruth r (along ps q i)) c.in_err-holds.was h))

pub returns : goal.returns
returns c = λ ps q i h. told_run ps q i c.in_ok-holds.field-0.next _ (subst (λ r. GivesTruth r (along ps q i)) c.in_ok-holds.was h)
