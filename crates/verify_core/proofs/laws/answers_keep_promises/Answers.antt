use Rattle.verify_core.proofs.PromisedAnswers.{Laws, answers_promise, checked_promise}
use Rattle.verify_core.proofs.SingleGoals.{bound_goal_is, checked_goals_meant, goals_meant}
use Rattle.verify_core.proofs.laws.answers_keep_promises.Goals as goal

pub returns-clause-decided : goal.returns-clause-decided
returns-clause-decided c =
    let laws : Laws = record {
      tell = c.decisions_tell.ensures;
      certified = c.certified_goals_hold.ensures;
      say = c.made_goals_say_bounds.ensures;
      shown = c.shown_bounds_hold.ensures;
      broken = c.broken_goals_break_bounds.ensures;
      encoded = c.encodings_are_over_their_variables.ensures.over;
      means = c.generated_form_means_acts.ensures.value;
      formula = c.generated_form_means_acts.ensures.typed;
      over = c.generated_form_means_acts.ensures.over;
      goals = c.prenexed_goals_speak_of_choices.ensures.goals;
      failing = c.prenexed_goals_speak_of_choices.ensures.failing;
      rankings = c.ranking_goals_say_rankings.ensures.goals;
      hold = c.ranking_goals_say_rankings.ensures.holds;
      unrank = c.ranking_goals_say_rankings.ensures.failing;
      bound = c.rankings_bound_turns.ensures;
    } in
    λ ps answers made certs rules h. answers_promise laws ps rules answers made certs h

pub returns-clause-checked : goal.returns-clause-checked
returns-clause-checked c =
    let laws : Laws = record {
      tell = c.decisions_tell.ensures;
      certified = c.certified_goals_hold.ensures;
      say = c.made_goals_say_bounds.ensures;
      shown = c.shown_bounds_hold.ensures;
      broken = c.broken_goals_break_bounds.ensures;
      encoded = c.encodings_are_over_their_variables.ensures.over;
      means = c.generated_form_means_acts.ensures.value;
      formula = c.generated_form_means_acts.ensures.typed;
      over = c.generated_form_means_acts.ensures.over;
      goals = c.prenexed_goals_speak_of_choices.ensures.goals;
      failing = c.prenexed_goals_speak_of_choices.ensures.failing;
      rankings = c.ranking_goals_say_rankings.ensures.goals;
      hold = c.ranking_goals_say_rankings.ensures.holds;
      unrank = c.ranking_goals_say_rankings.ensures.failing;
      bound = c.rankings_bound_turns.ensures;
    } in
    λ ps certs answers rules h. checked_promise laws ps rules (record { ref_ptr = (0, 0); now = certs }) answers h

pub returns-clause-goals : goal.returns-clause-goals
returns-clause-goals c =
    let laws : Laws = record {
      tell = c.decisions_tell.ensures;
      certified = c.certified_goals_hold.ensures;
      say = c.made_goals_say_bounds.ensures;
      shown = c.shown_bounds_hold.ensures;
      broken = c.broken_goals_break_bounds.ensures;
      encoded = c.encodings_are_over_their_variables.ensures.over;
      means = c.generated_form_means_acts.ensures.value;
      formula = c.generated_form_means_acts.ensures.typed;
      over = c.generated_form_means_acts.ensures.over;
      goals = c.prenexed_goals_speak_of_choices.ensures.goals;
      failing = c.prenexed_goals_speak_of_choices.ensures.failing;
      rankings = c.ranking_goals_say_rankings.ensures.goals;
      hold = c.ranking_goals_say_rankings.ensures.holds;
      unrank = c.ranking_goals_say_rankings.ensures.failing;
      bound = c.rankings_bound_turns.ensures;
    } in
    λ ps p asked rules there. bound_goal_is laws ps rules p asked there

pub returns-clause-alone : goal.returns-clause-alone
returns-clause-alone c =
    let laws : Laws = record {
      tell = c.decisions_tell.ensures;
      certified = c.certified_goals_hold.ensures;
      say = c.made_goals_say_bounds.ensures;
      shown = c.shown_bounds_hold.ensures;
      broken = c.broken_goals_break_bounds.ensures;
      encoded = c.encodings_are_over_their_variables.ensures.over;
      means = c.generated_form_means_acts.ensures.value;
      formula = c.generated_form_means_acts.ensures.typed;
      over = c.generated_form_means_acts.ensures.over;
      goals = c.prenexed_goals_speak_of_choices.ensures.goals;
      failing = c.prenexed_goals_speak_of_choices.ensures.failing;
      rankings = c.ranking_goals_say_rankings.ensures.goals;
      hold = c.ranking_goals_say_rankings.ensures.holds;
      unrank = c.ranking_goals_say_rankings.ensures.failing;
      bound = c.rankings_bound_turns.ensures;
    } in
    λ ps answers made certs rules h p there. goals_meant laws ps rules answers made certs h p there

pub returns-clause-checked_alone : goal.returns-clause-checked_alone
returns-clause-checked_alone c =
    let laws : Laws = record {
      tell = c.decisions_tell.ensures;
      certified = c.certified_goals_hold.ensures;
      say = c.made_goals_say_bounds.ensures;
      shown = c.shown_bounds_hold.ensures;
      broken = c.broken_goals_break_bounds.ensures;
      encoded = c.encodings_are_over_their_variables.ensures.over;
      means = c.generated_form_means_acts.ensures.value;
      formula = c.generated_form_means_acts.ensures.typed;
      over = c.generated_form_means_acts.ensures.over;
      goals = c.prenexed_goals_speak_of_choices.ensures.goals;
      failing = c.prenexed_goals_speak_of_choices.ensures.failing;
      rankings = c.ranking_goals_say_rankings.ensures.goals;
      hold = c.ranking_goals_say_rankings.ensures.holds;
      unrank = c.ranking_goals_say_rankings.ensures.failing;
      bound = c.rankings_bound_turns.ensures;
    } in
    λ ps certs answers rules h p there. checked_goals_meant laws ps rules (record { ref_ptr = (0, 0); now = certs }) answers h p there
