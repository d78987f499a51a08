use Rattle.std.proofs.Common.{◌∙◌, ap}
use Rattle.std.proofs.lemmas.Result.{IfOk-weaker}
use Rattle.heylo_formula.proofs.exported.Mirrors.{number_form}
use Rattle.heylo_formula.specs.Formula.{Form}
use Rattle.heylo_formula.specs.PlainTrees.{form_of}
use Rattle.heyvl_acts.specs.PlainActs.{acts_of}
use Rattle.lower_goals.proofs.StepWays.{limited_one, none_fit, small_one}
use Rattle.lower_goals.proofs.step_goals.one_goal.Goals as goal

pub vp-requires : goal.vp-requires
vp-requires c = none_fit c.args.pair.now c.requires.ready (acts_of c.deref.result.now) (form_of c.in_ok-copy.field-0) (ap acts_of (c.deref.ensures.value ∙ c.new-none.ensures.items)) c.in_ok-copy.ensures c.prenexed_form_means_choices.ensures.formula

pub goal_with-requires-clause-stated : goal.goal_with-requires-clause-stated
goal_with-requires-clause-stated c = number_form _ ∙ ap (λ v. Form.number v) c.one.ensures

pub goal_with-requires-clause-small : goal.goal_with-requires-clause-small
goal_with-requires-clause-small c = small_one c.args.pair.now c.requires.ready (acts_of c.deref.result.now) (form_of c.in_ok-copy.field-0) (ap acts_of (c.deref.ensures.value ∙ c.new-none.ensures.items)) c.in_ok-copy.ensures c.in-Ok.ensures.1

pub returns : goal.returns
returns c = IfOk-weaker c.limit.result _ _ (λ m e. limited_one c.args.pair.now c.requires.ready (acts_of c.deref.result.now) (form_of c.in_ok-copy.field-0) (ap acts_of (c.deref.ensures.value ∙ c.new-none.ensures.items)) c.in_ok-copy.ensures c.in-Err.stop m c.in-Err.ensures e) c.limit.ensures
