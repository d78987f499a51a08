use Rattle.std.proofs.Common.{ap}
use Rattle.std.proofs.lemmas.Result.{IfOk-weaker}
use Rattle.heylo_formula.specs.PlainTrees.{form_of}
use Rattle.heyvl_acts.specs.PlainActs.{acts_of}
use Rattle.lower_goals.proofs.StepWays.{limited_turn, turn_fit, turn_of}
use Rattle.lower_goals.proofs.step_goals.turn_goal.Goals as goal

pub vp-requires : goal.vp-requires
vp-requires c = turn_fit c.args.pair.now c.requires.ready (form_of c.in_ok-copy.field-0) c.in_ok-copy.ensures (acts_of c.deref.result.now) (ap acts_of c.deref.ensures.value) c.prenexed_form_means_choices.ensures.formula

pub with_turn-requires-clause-turn : goal.with_turn-requires-clause-turn
with_turn-requires-clause-turn c = turn_of c.args.pair.now c.requires.ready (form_of c.in_ok-copy.field-0) c.in_ok-copy.ensures (acts_of c.deref.result.now) (ap acts_of c.deref.ensures.value) (form_of c.in-Ok.turn) c.in-Ok.ensures.0 c.in-Ok.ensures.1

pub returns-in-Err : goal.returns-in-Err
returns-in-Err c = IfOk-weaker c.limit.result _ _ (λ m e. limited_turn c.args.pair.now c.requires.ready (form_of c.in_ok-copy.field-0) c.in_ok-copy.ensures (acts_of c.deref.result.now) (ap acts_of c.deref.ensures.value) c.in-Err.stop m c.in-Err.ensures e) c.limit.ensures
