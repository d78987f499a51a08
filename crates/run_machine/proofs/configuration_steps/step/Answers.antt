use Rattle.std.proofs.Common.{◌≡◌, ◌∷◌, drop, true, arith, rules, subst}
use Rattle.std.proofs.lemmas.Grind.{common_steps}
use Rattle.heylo_formula.specs.State.{fit}
use Rattle.heyvl_acts.specs.PlainActs.{procedures_of}
use Rattle.run_machine.specs.declared.configurations.Item.TheVariants.{Out}
use Rattle.run_machine.specs.Names.{decision_of, stored}
use Rattle.run_machine.specs.Step.{value_of}
use Rattle.run_machine.specs.Replies.{reply_of, replied, surely}
use Rattle.run_machine.specs.StoredMoves.{asked, assigned}
use Rattle.run_machine.proofs.Moves.{if_ok}
use Rattle.run_machine.proofs.StepReplies.{out_is}
use Rattle.run_machine.proofs.configuration_steps.step.Goals as goal

pub returns-in-Some-Back : goal.returns-in-Some-Back
returns-in-Some-Back c = if_ok c.return_step.result _ _ (λ r h. h _) c.return_step.ensures

pub returns-in-Some-Out : goal.returns-in-Some-Out
returns-in-Some-Out c =
    let first : c.args.config.now.items.items ≡ Out c.in-Some-Out.q c.in-Some-Out.x ∷ drop 1 c.args.config.now.items.items = first_of (search rules, grind (arith, common_steps)) in
    if_ok c.any_step.result _ _ (λ r h. out_is (procedures_of c.args.typed.now) (stored c.args.config.now) (decision_of c.args.decision) r c.in-Some-Out.q c.in-Some-Out.x c.requires.config first (subst (λ t. reply_of r ≡ replied true (surely (asked (assigned (stored c.args.config.now) c.in-Some-Out.x (fit t (value_of (decision_of c.args.decision))))))) c.type_of.ensures h)) c.any_step.ensures
