use Rattle.lower_goals.specs.OmegaGoals.{limited, step_goal}
use Rattle.lower_goals.specs.OmegaPairs.{formula_of}
use Rattle.lower_goals.specs.LentOmegaPairs.{behind, body, first, head, second}
use Rattle.lower_rules.proofs.MadeDecisions.{both_ok}
use Rattle.lower_rules.proofs.DecidablePairs.{made_decidable}
use Rattle.lower_rules.proofs.omegas.decided_step.Goals as goal

pub decided-requires : goal.decided-requires
decided-requires c = made_decidable c.args.pair.now c.requires c.generated_form_means_acts.ensures.typed c.generated_form_means_acts.ensures.over c.prenexed_form_means_choices.ensures.formula c.prenexed_form_means_choices.ensures.plain c.prenexed_goals_speak_of_choices.ensures.goals c.args.step c.in_ok-made.made c.in_ok-made.ensures

pub returns : goal.returns
returns c =
    let x = c.args.pair.now in
    let g = step_goal (first x) (head x) (body x) (behind x) (second x) c.args.step in
    let forms = limited (first x) (body x) (behind x) (formula_of (first x) (head x) (second x)) c.args.step in
    both_ok _ _ _ c.decided.result (λ d h k. record { decided = h; tells = k }) (c.decided.ensures.decision g forms c.in_ok-made.ensures) (c.decided.ensures.meaning g forms c.in_ok-made.ensures)
