use Rattle.heylo_formula.specs.PlainTrees.{form_of}
use Rattle.lower_goals.proofs.StepWays.{step_few, step_made, step_named}
use Rattle.lower_goals.proofs.step_sides.goal_with.Goals as goal

pub upper_goal-requires-clause-few : goal.upper_goal-requires-clause-few
upper_goal-requires-clause-few c = step_few c.args.pair.now c.requires.ready c.args.step c.in_ok-vars.vars.items (form_of c.args.stated) c.in_ok-vars.ensures c.requires.stated c.requires.small

pub upper_goal-requires-clause-named : goal.upper_goal-requires-clause-named
upper_goal-requires-clause-named c = step_named c.args.pair.now c.requires.ready c.args.step c.in_ok-vars.vars.items (form_of c.args.stated) c.in_ok-vars.ensures c.requires.stated c.generated_form_means_acts.ensures.named c.prenexed_form_means_choices.ensures.plain

pub returns : goal.returns
returns c = step_made c.args.pair.now c.requires.ready c.args.step c.in_ok-vars.vars.items (form_of c.args.stated) c.in_ok-vars.ensures c.requires.stated (form_of c.in_ok-found.found) c.in_ok-found.ensures c.in_ok-upper_goal.field-0 c.in_ok-upper_goal.ensures c.requires.small
