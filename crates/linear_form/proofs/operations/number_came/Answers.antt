use Rattle.std.proofs.Common.{ap, refl, rules, subst, sym, ◌∙◌}
use Rattle.linear_form.specs.internal.Run.{along}
use Rattle.linear_form.specs.internal.Run.Evaluation.{value}
use Rattle.linear_form.specs.internal.EvaluationResults.{Gives}
use Rattle.linear_form.specs.internal.Outcomes.{Result}
use Rattle.linear_values.specs.PlainValues.{linear_of}
use Rattle.linear_form.proofs.OperatedOutcomes.{comes_stopped}
use Rattle.linear_form.proofs.Runs.{stops_valued, valued_run}
use Rattle.linear_form.proofs.operations.number_came.Goals as goal

pub returns-in_err-value : goal.returns-in_err-value
returns-in_err-value c = λ ps q i h. comes_stopped _ _ _ (search rules) (stops_valued c.in_err-value.field-0.0 ps q q i refl (subst (λ r. Gives r (along ps q i)) c.in_err-value.was h))

pub returns : goal.returns
returns c = λ ps q i h. valued_run ps q i c.in_ok-value.field-0.next _ (subst (λ r. Gives r (along ps q i)) c.in_ok-value.was h) ∙ ap (λ v. value (Result.number (linear_of v)) c.in_ok-value.field-0.next) (sym c.in_ok-new.ensures.ok)
