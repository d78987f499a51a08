use Rattle.linear_form.proofs.ConstantForms.{constant_form}
use Rattle.linear_form.proofs.question_laws.constant_without_variables.Goals as goal

pub returns : goal.returns
returns c = constant_form
