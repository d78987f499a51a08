use Rattle.lower_rules.proofs.MadeDecisions.{made_for}
use Rattle.lower_rules.proofs.StartedPairs.{is_started, made_can}
use Rattle.lower_rules.proofs.remainders.started.Goals as goal

pub decided-requires : goal.decided-requires
decided-requires c = made_can c.args.typed.now c.args.p c.args.q c.args.parts.now c.requires.rules c.requires.first c.requires.second c.requires.pair c.generated_form_means_acts.ensures.typed c.generated_form_means_acts.ensures.over c.prenexed_goals_speak_of_choices.ensures.goals c.requires.small c.in_ok-made.made c.in_ok-made.ensures

pub returns : goal.returns
returns c = is_started c.args.typed.now c.args.p c.args.q c.args.parts.now c.requires.rules c.requires.first c.requires.second c.requires.pair c.generated_form_means_acts.ensures.value c.generated_form_means_acts.ensures.over c.prenexed_goals_speak_of_choices.ensures.holds c.prenexed_goals_speak_of_choices.ensures.failing c.decided.result (c.decided.ensures.decision _ _ (made_for _ _ c.in_ok-made.made c.in_ok-made.ensures)) (c.decided.ensures.meaning _ _ (made_for _ _ c.in_ok-made.made c.in_ok-made.ensures))
