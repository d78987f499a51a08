use Rattle.std.proofs.Common.{◌∙◌, ap, ap₂}
use Rattle.std.proofs.lemmas.Result.{IfOk-weaker}
use Rattle.heylo_formula.proofs.exported.Mirrors.{number_form}
use Rattle.heylo_formula.specs.Formula.{Form}
use Rattle.heylo_formula.specs.PlainTrees.{cond_of, form_of}
use Rattle.lower_goals.proofs.StepWays.{limited_base, loop_fit, loop_is, small_base}
use Rattle.lower_goals.proofs.step_goals.base_goal.Goals as goal

pub vp-requires : goal.vp-requires
vp-requires c = loop_fit c.args.pair.now c.requires.ready (form_of c.in_ok-copy.field-0) c.in_ok-copy.ensures

pub goal_with-requires-clause-stated : goal.goal_with-requires-clause-stated
goal_with-requires-clause-stated c = c.in_ok-stated-in-Ok.ensures ∙ ap₂ (λ (a b : Form). Form.select (cond_of c.args.pair.now.one.now.guard) a b) (number_form _ ∙ ap (λ v. Form.number v) c.zero.ensures.value) (c.in-Ok.ensures.0 ∙ loop_is c.args.pair.now c.requires.ready (form_of c.in_ok-copy.field-0) c.in_ok-copy.ensures)

pub goal_with-requires-clause-small : goal.goal_with-requires-clause-small
goal_with-requires-clause-small c = small_base c.args.pair.now c.requires.ready (form_of c.in_ok-copy.field-0) c.in_ok-copy.ensures c.in-Ok.ensures.1

pub returns-in-Err : goal.returns-in-Err
returns-in-Err c = IfOk-weaker c.limit.result _ _ (λ m e. limited_base c.args.pair.now c.requires.ready (form_of c.in_ok-copy.field-0) c.in_ok-copy.ensures c.in-Err.stop m c.in-Err.ensures e) c.limit.ensures
