use Rattle.std.proofs.Common.{◌≡◌, length, ap₂, ◌∙◌, arith}
use Rattle.linear_rows.specs.GreedyPoint.{value_for}
use Rattle.linear_elim.proofs.ChoiceRuns.{state_none, state_more, state_all}
use Rattle.linear_elim.proofs.choices.state.Goals as goal

pub loop-i-init : goal.loop-i-init
loop-i-init c = state_none c.args.vars.now c.args.chosen.now _ c.new-out.ensures.items

pub loop-i-preserved : goal.loop-i-preserved
loop-i-preserved c = state_more c.args.vars.now c.args.chosen.now _ _ c.loop-i.i _ c.loop-i.invariant (c.value_as.ensures ∙ ap₂ value_for c.type_of-ty.ensures c.value_of.ensures) c.in_ok-push.ensures.items

pub returns : goal.returns
returns c = let l : c.loop-i.i ≡ length c.args.vars.now = omega arith in state_all c.args.vars.now c.args.chosen.now _ c.loop-i.i c.loop-i.invariant l
