use Rattle.verify_core.proofs.SaidBounds.{made_goals_say}
use Rattle.verify_core.proofs.laws.made_goals_say_bounds.Goals as goal

pub returns : goal.returns
returns c = made_goals_say c.prenexed_goals_speak_of_choices.ensures.holds c.generated_form_means_acts.ensures.value c.generated_form_means_acts.ensures.typed c.generated_form_means_acts.ensures.over c.encodings_are_over_their_variables.ensures.over
