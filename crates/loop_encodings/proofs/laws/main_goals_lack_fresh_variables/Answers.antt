use Rattle.loop_encodings.proofs.FreshVariables.{forms_over_own, fresh_counted, fresh_lacking, fresh_not_free}
use Rattle.loop_encodings.proofs.laws.main_goals_lack_fresh_variables.Goals as goal

pub returns : goal.returns
returns c = record { counted = fresh_counted; over = forms_over_own; not_free = fresh_not_free; lacking = fresh_lacking }
