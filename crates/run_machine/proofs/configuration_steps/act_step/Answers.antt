use Rattle.std.proofs.Common.{◌≡◌, arith, ap, subst, ◌∙◌, length}
use Rattle.std.proofs.lemmas.List.{length-map}
use Rattle.std.specs.Prelude.{is_some, true, if◌then◌else◌, ◌+◌}
use Rattle.heylo_formula.specs.PlainTrees.{cond_of, form_of, term_of}
use Rattle.heylo_formula.specs.State.{environment}
use Rattle.heyvl_acts.specs.Acts.{Act, procedure_at}
use Rattle.heyvl_acts.specs.Matching.{taken}
use Rattle.heyvl_acts.specs.Places.{in_order, inside_arms}
use Rattle.heyvl_acts.specs.PlainActs.{act_of, acts_of, arms_of, parts_of, procedure_of, procedures_of, terms_of}
use Rattle.heyvl_acts.proofs.exported.PlainActsAre.{set_act, draw_act, toss_act, any_act, reward_act, if_act, pick_act, check_act, validate_act, loop_act, call_act, head_of}
use Rattle.quant_algebra.specs.ExactMeaning.{exact_truth}
use Rattle.run_machine.specs.BoundedStep.{guards_fit, parts_fit, terms_fit}
use Rattle.run_machine.specs.Configurations.{evaluate}
use Rattle.run_machine.specs.Names.{stored, decision_of}
use Rattle.run_machine.specs.Step.{side_of}
use Rattle.run_machine.specs.internal.NextItems.{ComesNext}
use Rattle.run_machine.specs.Replies.{reply_of, replied, surely}
use Rattle.run_machine.specs.StoredMoves.{asked, entered, opened, stored_branches, taken_place, tested}
use Rattle.run_machine.proofs.BlockSizes.{if_size, pick_size, loop_size}
use Rattle.run_machine.proofs.Moves.{if_ok}
use Rattle.run_machine.proofs.RuledActs.{all_small, ruled}
use Rattle.run_machine.proofs.StepReplies.{act_is, has_room}
use Rattle.run_machine.proofs.configuration_steps.act_step.Goals as goal

pub overflow_add-place : goal.overflow_add-place
overflow_add-place c = let r = has_room (procedures_of c.args.typed.now) c.args.p c.args.place (act_of c.args.act.now) c.requires.rules.few_acts c.requires.comes.names in omega (arith, r)

pub overflow_add-place-in-Pick : goal.overflow_add-place-in-Pick
overflow_add-place-in-Pick c = let r = has_room (procedures_of c.args.typed.now) c.args.p c.args.place (act_of c.args.act.now) c.requires.rules.few_acts c.requires.comes.names in omega (arith, r)

pub if_step-requires : goal.if_step-requires
if_step-requires c = let r = has_room (procedures_of c.args.typed.now) c.args.p c.args.place (act_of c.args.act.now) c.requires.rules.few_acts c.requires.comes.names in let e = if_size c.args.act.now c.in-If.arms c.in-If.other c.in-If.field-2 c.in-If.is in let a = ap (λ l. length (inside_arms (arms_of l))) c.deref-in-If.ensures.value in let b = ap (λ l. length (in_order (acts_of l))) c.deref-in-If-2.ensures.value in omega (arith, r, e, a, b)

pub pick_step-requires-clause-small : goal.pick_step-requires-clause-small
pick_step-requires-clause-small c = let r = has_room (procedures_of c.args.typed.now) c.args.p c.args.place (act_of c.args.act.now) c.requires.rules.few_acts c.requires.comes.names in let e = pick_size c.args.act.now c.in-Pick.field-0 c.in-Pick.left c.in-Pick.right c.in-Pick.field-3 c.in-Pick.is in let a = ap (λ l. length (in_order (acts_of l))) c.deref-in-Pick.ensures.value in let b = ap (λ l. length (in_order (acts_of l))) c.deref-in-Pick-2.ensures.value in omega (arith, r, e, a, b)

pub test_step-requires-clause-small : goal.test_step-requires-clause-small
test_step-requires-clause-small c = let r = has_room (procedures_of c.args.typed.now) c.args.p c.args.place (act_of c.args.act.now) c.requires.rules.few_acts c.requires.comes.names in let e = loop_size c.args.act.now c.in-Loop.one c.in-Loop.is in let a = ap (λ l. length (in_order (acts_of l.body.items))) c.deref-in-Loop.ensures in omega (arith, r, e, a)

pub call_step-requires-clause-few : goal.call_step-requires-clause-few
call_step-requires-clause-few c = c.requires.rules.few_acts

pub call_step-requires-clause-small : goal.call_step-requires-clause-small
call_step-requires-clause-small c = all_small _ _ c.requires.rules.counted c.requires.rules.each

pub returns-in-Set : goal.returns-in-Set
returns-in-Set c = if_ok c.set_step.result _ _ (λ r h. act_is (procedures_of c.args.typed.now) (stored c.args.config.now) _ r c.args.p c.args.place (Act.set c.in-Set.x (term_of c.in-Set.term) c.in-Set.field-2) (subst (ComesNext (procedures_of c.args.typed.now) (stored c.args.config.now) c.args.p c.args.place) (ap act_of c.in-Set.is ∙ set_act c.in-Set.x c.in-Set.term c.in-Set.field-2) c.requires.comes) h) c.set_step.ensures

pub returns-in-Draw : goal.returns-in-Draw
returns-in-Draw c = if_ok c.draw_step.result _ _ (λ r h. act_is (procedures_of c.args.typed.now) (stored c.args.config.now) _ r c.args.p c.args.place (Act.draw c.in-Draw.x (parts_of c.in-Draw.parts.items) c.in-Draw.field-2) (subst (ComesNext (procedures_of c.args.typed.now) (stored c.args.config.now) c.args.p c.args.place) (ap act_of c.in-Draw.is ∙ draw_act c.in-Draw.x c.in-Draw.parts c.in-Draw.field-2) c.requires.comes) (subst (λ l. reply_of r ≡ replied (parts_fit (parts_of l) c.args.config.now.state.items) (stored_branches (stored c.args.config.now) c.in-Draw.x (parts_of l))) c.deref.ensures.value h)) c.draw_step.ensures

pub returns-in-Toss : goal.returns-in-Toss
returns-in-Toss c = if_ok c.toss_step.result _ _ (λ r h. act_is (procedures_of c.args.typed.now) (stored c.args.config.now) _ r c.args.p c.args.place (Act.toss c.in-Toss.x (form_of c.in-Toss.form) c.in-Toss.field-2) (subst (ComesNext (procedures_of c.args.typed.now) (stored c.args.config.now) c.args.p c.args.place) (ap act_of c.in-Toss.is ∙ toss_act c.in-Toss.x c.in-Toss.form c.in-Toss.field-2) c.requires.comes) h) c.toss_step.ensures

pub returns-in-Any : goal.returns-in-Any
returns-in-Any c = if_ok c.any_step.result _ _ (λ r h. act_is (procedures_of c.args.typed.now) (stored c.args.config.now) _ r c.args.p c.args.place (Act.any c.in-Any.x c.in-Any.field-1 c.in-Any.ty c.in-Any.field-3) (subst (ComesNext (procedures_of c.args.typed.now) (stored c.args.config.now) c.args.p c.args.place) (ap act_of c.in-Any.is ∙ any_act c.in-Any.x c.in-Any.field-1 c.in-Any.ty c.in-Any.field-3) c.requires.comes) h) c.any_step.ensures

pub returns-in-Reward : goal.returns-in-Reward
returns-in-Reward c = if_ok c.reward_step.result _ _ (λ r h. act_is (procedures_of c.args.typed.now) (stored c.args.config.now) _ r c.args.p c.args.place (Act.reward (form_of c.in-Reward.form) c.in-Reward.field-1) (subst (ComesNext (procedures_of c.args.typed.now) (stored c.args.config.now) c.args.p c.args.place) (ap act_of c.in-Reward.is ∙ reward_act c.in-Reward.form c.in-Reward.field-1) c.requires.comes) h) c.reward_step.ensures

pub returns-in-If : goal.returns-in-If
returns-in-If c = if_ok c.if_step.result _ _ (λ r h. act_is (procedures_of c.args.typed.now) (stored c.args.config.now) _ r c.args.p c.args.place (Act.ifs (arms_of c.in-If.arms.items) (acts_of c.in-If.other.items) c.in-If.field-2) (subst (ComesNext (procedures_of c.args.typed.now) (stored c.args.config.now) c.args.p c.args.place) (ap act_of c.in-If.is ∙ if_act c.in-If.arms c.in-If.other c.in-If.field-2) c.requires.comes) (subst (λ l. reply_of r ≡ replied (guards_fit (arms_of c.in-If.arms.items) c.args.config.now.state.items) (surely (opened (stored c.args.config.now) c.args.p (taken_place (c.args.place + 1) (arms_of c.in-If.arms.items) (environment c.args.config.now.state.items)) (taken (arms_of c.in-If.arms.items) (acts_of l) (environment c.args.config.now.state.items))))) c.deref-in-If-2.ensures.value (subst (λ l. reply_of r ≡ replied (guards_fit (arms_of l) c.args.config.now.state.items) (surely (opened (stored c.args.config.now) c.args.p (taken_place (c.args.place + 1) (arms_of l) (environment c.args.config.now.state.items)) (taken (arms_of l) (acts_of c.deref-in-If-2.result.now) (environment c.args.config.now.state.items))))) c.deref-in-If.ensures.value h))) c.if_step.ensures

pub returns-in-Pick : goal.returns-in-Pick
returns-in-Pick c = if_ok c.pick_step.result _ _ (λ r h. act_is (procedures_of c.args.typed.now) (stored c.args.config.now) (decision_of c.args.decision) r c.args.p c.args.place (Act.pick c.in-Pick.field-0 (acts_of c.in-Pick.left.items) (acts_of c.in-Pick.right.items) c.in-Pick.field-3) (subst (ComesNext (procedures_of c.args.typed.now) (stored c.args.config.now) c.args.p c.args.place) (ap act_of c.in-Pick.is ∙ pick_act c.in-Pick.field-0 c.in-Pick.left c.in-Pick.right c.in-Pick.field-3) c.requires.comes) (subst (λ l. reply_of r ≡ replied true (surely (asked (if side_of (decision_of c.args.decision) then opened (stored c.args.config.now) c.args.p (c.args.place + 1) (acts_of c.in-Pick.left.items) else opened (stored c.args.config.now) c.args.p (c.args.place + 1 + length (in_order (acts_of c.in-Pick.left.items))) (acts_of l))))) c.deref-in-Pick-2.ensures.value (subst (λ l. reply_of r ≡ replied true (surely (asked (if side_of (decision_of c.args.decision) then opened (stored c.args.config.now) c.args.p (c.args.place + 1) (acts_of l) else opened (stored c.args.config.now) c.args.p (c.args.place + 1 + length (in_order (acts_of l))) (acts_of c.deref-in-Pick-2.result.now))))) c.deref-in-Pick.ensures.value h))) c.pick_step.ensures

pub returns-in-Loop : goal.returns-in-Loop
returns-in-Loop c = if_ok c.test_step.result _ _ (λ r h. act_is (procedures_of c.args.typed.now) (stored c.args.config.now) _ r c.args.p c.args.place (Act.loop (head_of c.in-Loop.one.value) (acts_of c.in-Loop.one.value.body.items)) (subst (ComesNext (procedures_of c.args.typed.now) (stored c.args.config.now) c.args.p c.args.place) (ap act_of c.in-Loop.is ∙ loop_act c.in-Loop.one) c.requires.comes) (subst (λ l. reply_of r ≡ replied (is_some (exact_truth (cond_of l.guard) c.args.config.now.state.items)) (surely (tested (stored c.args.config.now) c.args.p c.args.place (cond_of l.guard) l.number (acts_of l.body.items)))) c.deref-in-Loop.ensures h)) c.test_step.ensures

pub returns-in-Call : goal.returns-in-Call
returns-in-Call c = if_ok c.call_step.result _ _ (λ r h. act_is (procedures_of c.args.typed.now) (stored c.args.config.now) _ r c.args.p c.args.place (Act.call c.in-Call.field-0.items c.in-Call.q (terms_of c.in-Call.terms.items) c.in-Call.field-3) (subst (ComesNext (procedures_of c.args.typed.now) (stored c.args.config.now) c.args.p c.args.place) (ap act_of c.in-Call.is ∙ call_act c.in-Call.field-0 c.in-Call.q c.in-Call.terms c.in-Call.field-3) c.requires.comes) (subst (λ l. reply_of r ≡ replied (terms_fit (terms_of l) c.args.config.now.state.items) (surely (entered (stored c.args.config.now) c.args.p c.args.place c.in-Call.q (procedure_at (procedures_of c.args.typed.now) c.in-Call.q) (evaluate (terms_of l) (environment c.args.config.now.state.items))))) c.deref-in-Call.ensures.value h)) c.call_step.ensures

pub returns-in-Check : goal.returns-in-Check
returns-in-Check c = if_ok c.pass_step.result _ _ (λ r h. act_is (procedures_of c.args.typed.now) (stored c.args.config.now) _ r c.args.p c.args.place (Act.check c.in-Check.field-0 (form_of c.in-Check.field-1) c.in-Check.field-2) (subst (ComesNext (procedures_of c.args.typed.now) (stored c.args.config.now) c.args.p c.args.place) (ap act_of c.in-Check.is ∙ check_act c.in-Check.field-0 c.in-Check.field-1 c.in-Check.field-2) c.requires.comes) h) c.pass_step.ensures

pub returns-in-Validate : goal.returns-in-Validate
returns-in-Validate c = if_ok c.pass_step-in-Validate.result _ _ (λ r h. act_is (procedures_of c.args.typed.now) (stored c.args.config.now) _ r c.args.p c.args.place (Act.validate c.in-Validate.field-0 c.in-Validate.field-1) (subst (ComesNext (procedures_of c.args.typed.now) (stored c.args.config.now) c.args.p c.args.place) (ap act_of c.in-Validate.is ∙ validate_act c.in-Validate.field-0 c.in-Validate.field-1) c.requires.comes) h) c.pass_step-in-Validate.ensures

pub call_step-requires-clause-there : goal.call_step-requires-clause-there
call_step-requires-clause-there c = let k = ruled (procedures_of c.args.typed.now) c.args.p c.args.place _ c.requires.comes.rules (subst (ComesNext (procedures_of c.args.typed.now) (stored c.args.config.now) c.args.p c.args.place) (ap act_of c.in-Call.is ∙ call_act c.in-Call.field-0 c.in-Call.q c.in-Call.terms c.in-Call.field-3) c.requires.comes).names in let n = k.typed.there in let e = length-map c.args.typed.now.procs.items procedure_of in omega (arith, n, e)
