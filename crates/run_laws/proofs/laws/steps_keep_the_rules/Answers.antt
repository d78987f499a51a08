use Rattle.run_laws.proofs.exported.RuledSteps as kept
use Rattle.run_laws.proofs.laws.steps_keep_the_rules.Goals as goal

pub returns : goal.returns
returns c = record { begun = kept.beginnings_fit; kept = kept.steps_keep_the_rules; weights = kept.ruled_steps_weigh_one }
