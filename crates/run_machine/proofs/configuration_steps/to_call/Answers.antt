use Rattle.std.proofs.Common.{◌≡◌, arith, ap, subst, ◌∙◌, true}
use Rattle.std.proofs.lemmas.List.{length-map}
use Rattle.heyvl_acts.specs.Acts.{procedure_at}
use Rattle.heyvl_acts.specs.PlainActs.{act_of, procedure_of, procedures_of, terms_of}
use Rattle.heyvl_acts.proofs.exported.PlainActsAre.{set_act, draw_act, toss_act, any_act, reward_act, if_act, pick_act, check_act, validate_act, loop_act, call_act}
use Rattle.run_machine.specs.Names.{stored}
use Rattle.run_machine.specs.internal.NextItems.{ReturnsNext}
use Rattle.run_machine.specs.Replies.{reply_of, replied, surely}
use Rattle.run_machine.specs.StoredMoves.{resumed}
use Rattle.run_machine.proofs.Moves.{if_ok}
use Rattle.run_machine.proofs.RuledActs.{all_small}
use Rattle.run_machine.proofs.StepReplies.{back_is}
use Rattle.run_machine.proofs.Steps.{back_state, back_there, to_no_other}
use Rattle.run_machine.proofs.exported.TypedStates.{state_long}
use Rattle.run_machine.proofs.configuration_steps.to_call.Goals as goal

pub back_step-requires-clause-small : goal.back_step-requires-clause-small
back_step-requires-clause-small c = all_small _ _ c.requires.rules.counted c.requires.rules.each

pub back_step-requires-clause-there : goal.back_step-requires-clause-there
back_step-requires-clause-there c = let h = back_there (procedures_of c.args.typed.now) (stored c.args.config.now) c.in-Call.q c.in-Call.targets.items (terms_of c.in-Call.field-2.items) c.in-Call.field-3 (subst (ReturnsNext (procedures_of c.args.typed.now) (stored c.args.config.now)) (ap act_of c.in-Call.is ∙ call_act c.in-Call.targets c.in-Call.q c.in-Call.field-2 c.in-Call.field-3) c.requires.returns) in let e = length-map c.args.typed.now.procs.items procedure_of in omega (arith, h, e)

pub back_step-requires-clause-state : goal.back_step-requires-clause-state
back_step-requires-clause-state c = state_long (procedure_at (procedures_of c.args.typed.now) c.in-Call.q) c.args.config.now.state.items (back_state (procedures_of c.args.typed.now) (stored c.args.config.now) c.in-Call.q c.in-Call.targets.items (terms_of c.in-Call.field-2.items) c.in-Call.field-3 (subst (ReturnsNext (procedures_of c.args.typed.now) (stored c.args.config.now)) (ap act_of c.in-Call.is ∙ call_act c.in-Call.targets c.in-Call.q c.in-Call.field-2 c.in-Call.field-3) c.requires.returns))

pub returns : goal.returns
returns c = let k = (subst (ReturnsNext (procedures_of c.args.typed.now) (stored c.args.config.now)) (ap act_of c.in-Call.is ∙ call_act c.in-Call.targets c.in-Call.q c.in-Call.field-2 c.in-Call.field-3) c.requires.returns) in if_ok c.back_step.result _ _ (λ r h d. back_is (procedures_of c.args.typed.now) (stored c.args.config.now) d r k.p k.place c.in-Call.q c.in-Call.targets.items (terms_of c.in-Call.field-2.items) c.in-Call.field-3 k.rules k.config k.first k.names (λ fs f e. subst (λ l. reply_of r ≡ replied true (surely (resumed (stored c.args.config.now) l (procedure_at (procedures_of c.args.typed.now) c.in-Call.q) fs f))) c.deref.ensures.value (h fs f e))) c.back_step.ensures

pub unreachable-requires : goal.unreachable-requires
unreachable-requires c = to_no_other (procedures_of c.args.typed.now) (stored c.args.config.now) _ (subst (ReturnsNext (procedures_of c.args.typed.now) (stored c.args.config.now)) (ap act_of c.in-Set.is ∙ set_act c.in-Set.field-0 c.in-Set.field-1 c.in-Set.field-2) c.requires.returns) tt

pub unreachable-requires-in-Draw : goal.unreachable-requires-in-Draw
unreachable-requires-in-Draw c = to_no_other (procedures_of c.args.typed.now) (stored c.args.config.now) _ (subst (ReturnsNext (procedures_of c.args.typed.now) (stored c.args.config.now)) (ap act_of c.in-Draw.is ∙ draw_act c.in-Draw.field-0 c.in-Draw.field-1 c.in-Draw.field-2) c.requires.returns) tt

pub unreachable-requires-in-Toss : goal.unreachable-requires-in-Toss
unreachable-requires-in-Toss c = to_no_other (procedures_of c.args.typed.now) (stored c.args.config.now) _ (subst (ReturnsNext (procedures_of c.args.typed.now) (stored c.args.config.now)) (ap act_of c.in-Toss.is ∙ toss_act c.in-Toss.field-0 c.in-Toss.field-1 c.in-Toss.field-2) c.requires.returns) tt

pub unreachable-requires-in-Any : goal.unreachable-requires-in-Any
unreachable-requires-in-Any c = to_no_other (procedures_of c.args.typed.now) (stored c.args.config.now) _ (subst (ReturnsNext (procedures_of c.args.typed.now) (stored c.args.config.now)) (ap act_of c.in-Any.is ∙ any_act c.in-Any.field-0 c.in-Any.field-1 c.in-Any.field-2 c.in-Any.field-3) c.requires.returns) tt

pub unreachable-requires-in-Reward : goal.unreachable-requires-in-Reward
unreachable-requires-in-Reward c = to_no_other (procedures_of c.args.typed.now) (stored c.args.config.now) _ (subst (ReturnsNext (procedures_of c.args.typed.now) (stored c.args.config.now)) (ap act_of c.in-Reward.is ∙ reward_act c.in-Reward.field-0 c.in-Reward.field-1) c.requires.returns) tt

pub unreachable-requires-in-If : goal.unreachable-requires-in-If
unreachable-requires-in-If c = to_no_other (procedures_of c.args.typed.now) (stored c.args.config.now) _ (subst (ReturnsNext (procedures_of c.args.typed.now) (stored c.args.config.now)) (ap act_of c.in-If.is ∙ if_act c.in-If.field-0 c.in-If.field-1 c.in-If.field-2) c.requires.returns) tt

pub unreachable-requires-in-Pick : goal.unreachable-requires-in-Pick
unreachable-requires-in-Pick c = to_no_other (procedures_of c.args.typed.now) (stored c.args.config.now) _ (subst (ReturnsNext (procedures_of c.args.typed.now) (stored c.args.config.now)) (ap act_of c.in-Pick.is ∙ pick_act c.in-Pick.field-0 c.in-Pick.field-1 c.in-Pick.field-2 c.in-Pick.field-3) c.requires.returns) tt

pub unreachable-requires-in-Check : goal.unreachable-requires-in-Check
unreachable-requires-in-Check c = to_no_other (procedures_of c.args.typed.now) (stored c.args.config.now) _ (subst (ReturnsNext (procedures_of c.args.typed.now) (stored c.args.config.now)) (ap act_of c.in-Check.is ∙ check_act c.in-Check.field-0 c.in-Check.field-1 c.in-Check.field-2) c.requires.returns) tt

pub unreachable-requires-in-Validate : goal.unreachable-requires-in-Validate
unreachable-requires-in-Validate c = to_no_other (procedures_of c.args.typed.now) (stored c.args.config.now) _ (subst (ReturnsNext (procedures_of c.args.typed.now) (stored c.args.config.now)) (ap act_of c.in-Validate.is ∙ validate_act c.in-Validate.field-0 c.in-Validate.field-1) c.requires.returns) tt

pub unreachable-requires-in-Loop : goal.unreachable-requires-in-Loop
unreachable-requires-in-Loop c = to_no_other (procedures_of c.args.typed.now) (stored c.args.config.now) _ (subst (ReturnsNext (procedures_of c.args.typed.now) (stored c.args.config.now)) (ap act_of c.in-Loop.is ∙ loop_act c.in-Loop.field-0) c.requires.returns) tt
