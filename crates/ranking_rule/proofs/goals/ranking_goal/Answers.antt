use Rattle.std.proofs.Common.{ap, refl, ◌∙◌, arith, List, length}
use Rattle.heylo_formula.specs.PlainTrees.{form_of}
use Rattle.heyvl_acts.specs.PlainActs.{acts_of}
use Rattle.heyvl_acts.specs.declared.typed_trees.VarInfo.{VarInfo}
use Rattle.heyvl_acts.specs.Upward.{upward}
use Rattle.made_goals.proofs.exported.MadeGoals.{named_as}
use Rattle.vp_generator.specs.GeneratedForms.{vp}
use Rattle.ranking_rule.proofs.MadeRankings.{are_named, few_vars, is_fit, is_made, no_loop, no_rank}
use Rattle.ranking_rule.proofs.goals.ranking_goal.Goals as goal

pub unreachable-requires : goal.unreachable-requires
unreachable-requires c = no_loop c.args.typed.now c.args.p c.args.number c.index-procedure.result.now c.requires.rules c.requires.there c.index-procedure.ensures c.requires.ranked c.in_default.ensures

pub unreachable-requires-in_default-rank : goal.unreachable-requires-in_default-rank
unreachable-requires-in_default-rank c = no_rank c.args.typed.now c.args.p c.args.number c.index-procedure.result.now c.requires.rules c.requires.there c.index-procedure.ensures c.in-Some.one.now c.in-Some.ensures c.requires.ranked c.in_default-rank.is

pub generated_goal-requires-clause-few : goal.generated_goal-requires-clause-few
generated_goal-requires-clause-few c = let e = ap (λ (l : List VarInfo). length l) c.deref-2.ensures.value in let f = few_vars c.args.typed.now c.args.p c.args.number c.index-procedure.result.now c.requires.rules c.requires.there c.index-procedure.ensures in omega (arith, e, f)

pub generated_goal-requires-clause-fit : goal.generated_goal-requires-clause-fit
generated_goal-requires-clause-fit c = is_fit c.args.typed.now c.args.p c.args.number c.index-procedure.result.now c.requires.rules c.requires.there c.index-procedure.ensures c.in-Some.one.now c.in-Some.ensures c.in-Some-rank.step c.in-Some-rank.ranking c.in-Some-rank.is _ (ap acts_of c.deref-3.ensures.value ∙ (c.in_ok-acts.ensures ∙ ap (λ l. upward (acts_of l)) c.deref.ensures.value))

pub generated_goal-requires-clause-named : goal.generated_goal-requires-clause-named
generated_goal-requires-clause-named c = named_as _ _ (vp (acts_of c.deref-3.result.now) (form_of c.in-Some-rank.ranking)) (vp (acts_of c.deref-3.result.now) (form_of c.in-Some-rank.ranking)) (ap (λ (l : List VarInfo). length l) c.deref-2.ensures.value) refl (are_named c.args.typed.now c.args.p c.args.number c.index-procedure.result.now c.requires.rules c.requires.there c.index-procedure.ensures c.in-Some.one.now c.in-Some.ensures c.in-Some-rank.step c.in-Some-rank.ranking c.in-Some-rank.is c.generated_form_means_acts.ensures.named (vp (acts_of c.deref-3.result.now) (form_of c.in-Some-rank.ranking)) (ap (λ a. vp a (form_of c.in-Some-rank.ranking)) (ap acts_of c.deref-3.ensures.value ∙ (c.in_ok-acts.ensures ∙ ap (λ l. upward (acts_of l)) c.deref.ensures.value))))

pub returns : goal.returns
returns c = is_made c.args.typed.now c.args.p c.args.number c.index-procedure.result.now c.requires.rules c.requires.there c.index-procedure.ensures c.in-Some.one.now c.in-Some.ensures c.in-Some-rank.step c.in-Some-rank.ranking c.in-Some-rank.is c.deref-2.result.now (vp (acts_of c.deref-3.result.now) (form_of c.in-Some-rank.ranking)) c.in_ok-made.made c.with_test.result c.deref-2.ensures.value (ap (λ a. vp a (form_of c.in-Some-rank.ranking)) (ap acts_of c.deref-3.ensures.value ∙ (c.in_ok-acts.ensures ∙ ap (λ l. upward (acts_of l)) c.deref.ensures.value))) c.in_ok-made.ensures c.with_test.ensures
