use Rattle.ranking_rule.proofs.GoalsOfRankings.{goals_are_few, goals_are_goals, goals_fail, goals_hold}
use Rattle.ranking_rule.proofs.laws.ranking_goals_say_rankings.Goals as goal

pub returns : goal.returns
returns c = record {
  holds = goals_hold c.generated_form_means_acts.ensures.value c.generated_form_means_acts.ensures.over c.prenexed_goals_speak_of_choices.ensures.holds;
  failing = goals_fail c.generated_form_means_acts.ensures.value c.generated_form_means_acts.ensures.over c.prenexed_goals_speak_of_choices.ensures.failing;
  goals = goals_are_goals c.generated_form_means_acts.ensures.typed c.generated_form_means_acts.ensures.over c.prenexed_goals_speak_of_choices.ensures.goals;
  few = goals_are_few;
}
