use Rattle.ranking_rule.proofs.TurnsBound.{rankings_bound}
use Rattle.ranking_rule.proofs.laws.rankings_bound_turns.Goals as goal

pub returns : goal.returns
returns c = rankings_bound c.types_bound_values.ensures.nonnegative c.generated_form_means_acts.ensures.value c.generated_form_means_acts.ensures.typed
