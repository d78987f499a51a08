use Rattle.std.proofs.Common.{refl, ap, ◌∙◌, map, true}
use Rattle.heylo_formula.specs.PlainTrees.{form_of}
use Rattle.heyvl_acts.specs.PlainActs.{acts_of, variable_of}
use Rattle.heyvl_acts.specs.Upward.{upward}
use Rattle.made_goals.proofs.exported.MadeGoals.{fit_as, made_as, named_as}
use Rattle.vp_generator.specs.GeneratedForms.{vp}
use Rattle.lower_goals.proofs.start_goals.start_goal.Goals as goal

pub generated_goal-requires-clause-fit : goal.generated_goal-requires-clause-fit
generated_goal-requires-clause-fit c = fit_as _ (upward (acts_of c.args.front.now)) _ (form_of c.args.ranking.now) (ap acts_of c.deref.ensures.value ∙ c.in_ok-acts.ensures) refl c.requires.fit

pub generated_goal-requires-clause-named : goal.generated_goal-requires-clause-named
generated_goal-requires-clause-named c = named_as _ _ (vp (acts_of c.deref.result.now) (form_of c.args.ranking.now)) (vp (upward (acts_of c.args.front.now)) (form_of c.args.ranking.now)) refl (ap (λ a. vp a (form_of c.args.ranking.now)) (ap acts_of c.deref.ensures.value ∙ c.in_ok-acts.ensures)) c.requires.named

pub returns : goal.returns
returns c = made_as true (map variable_of c.args.vars.now) (form_of c.args.bound.now) (vp (acts_of c.deref.result.now) (form_of c.args.ranking.now)) (vp (upward (acts_of c.args.front.now)) (form_of c.args.ranking.now)) c.generated_goal.result (ap (λ a. vp a (form_of c.args.ranking.now)) (ap acts_of c.deref.ensures.value ∙ c.in_ok-acts.ensures)) c.generated_goal.ensures
