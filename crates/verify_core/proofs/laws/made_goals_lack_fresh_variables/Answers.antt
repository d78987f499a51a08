use Rattle.verify_core.proofs.FreshVariables.{main_goals_count, main_goals_lack}
use Rattle.verify_core.proofs.laws.made_goals_lack_fresh_variables.Goals as goal

pub returns : goal.returns
returns c = record { counted = main_goals_count c.main_goals_lack_fresh_variables.ensures.counted; lacking = main_goals_lack c.main_goals_lack_fresh_variables.ensures.lacking }
