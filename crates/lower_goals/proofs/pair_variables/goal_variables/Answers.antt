use Rattle.std.proofs.Common.{◌∙◌, ap, length, get_or, map, List}
use Rattle.heyvl_acts.specs.PlainActs.{variable_of}
use Rattle.heyvl_acts.specs.declared.typed_trees.VarInfo.{VarInfo}
use Rattle.lower_goals.proofs.GoalVariables.{inputs_length}
use Rattle.lower_goals.proofs.PairShapes.{goal_variables_are, last_there}
use Rattle.lower_goals.specs.LentOmegaPairs.{first, head, second}
use Rattle.lower_goals.proofs.pair_variables.goal_variables.Goals as goal

pub returns : goal.returns
returns c =
    let x = c.args.pair.now in
    let n = inputs_length (first x) (head x) (second x) c.requires.ready.pair in
    goal_variables_are x.procedure.now x.other.now (head x) c.in_ok-vars.vars.items c.push.new.self.items c.index.result.now c.in_ok-copy_of.field-0 n (last_there x.other.now (length x.one.now.scope.items) n) (c.index.ensures ∙ ap (λ k. get_or x.other.now.vars.items k c.index.result.now) (c.len.ensures ∙ x.one.now.scope.ok.0)) (c.in_ok-vars.ensures ∙ ap (λ (vs : List VarInfo). map variable_of vs) c.deref.ensures.value) c.in_ok-copy_of.ensures c.in_ok-push.ensures.items
