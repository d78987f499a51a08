use Rattle.lower_goals.proofs.MadeStarts.{all_made, are_named, few_vars, is_fit}
use Rattle.lower_goals.proofs.remainder_goals.made_of.Goals as goal

pub start_goal-requires-clause-few : goal.start_goal-requires-clause-few
start_goal-requires-clause-few c = few_vars c.args.typed.now c.args.p c.args.q c.args.parts.now c.requires.rules c.requires.first c.requires.second c.requires.pair c.index-procedure.result.now c.index-procedure.ensures c.deref.result.now c.deref.ensures.value

pub start_goal-requires-clause-fit : goal.start_goal-requires-clause-fit
start_goal-requires-clause-fit c = is_fit c.args.typed.now c.args.p c.args.q c.args.parts.now c.requires.rules c.requires.first c.requires.second c.requires.pair

pub start_goal-requires-clause-named : goal.start_goal-requires-clause-named
start_goal-requires-clause-named c = are_named c.args.typed.now c.args.p c.args.q c.args.parts.now c.requires.rules c.requires.first c.requires.second c.requires.pair c.index-procedure.result.now c.index-procedure.ensures c.deref.result.now c.deref.ensures.value c.generated_form_means_acts.ensures.named

pub returns : goal.returns
returns c = all_made c.args.typed.now c.args.p c.args.q c.args.parts.now c.requires.rules c.requires.first c.requires.second c.requires.pair c.index-procedure.result.now c.index-procedure.ensures c.deref.result.now c.deref.ensures.value c.index-bound.result.now c.index-bound.ensures c.start_goal.result c.start_goal.ensures
