use Rattle.vp_generator.proofs.FailingGoals.{goals_fail}
use Rattle.vp_generator.proofs.PrenexedValues.{found_value}
use Rattle.vp_generator.proofs.PrenexedGoals.{goals_of_choices, goals_are_goals}
use Rattle.vp_generator.proofs.laws.prenexed_goals_speak_of_choices.Goals as goal

pub returns : goal.returns
returns c = record { holds = goals_of_choices; goals = goals_are_goals; failing = goals_fail found_value }
