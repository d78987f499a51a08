use Rattle.linear_elim.proofs.ChoiceRuns.{map_more, map_all}
use Rattle.linear_elim.proofs.choices.numbers.Goals as goal

pub loop-x-init : goal.loop-x-init
loop-x-init c = c.new-out.ensures.items

pub loop-x-preserved : goal.loop-x-preserved
loop-x-preserved c = map_more c.args.chosen.now c.loop-x.x-index c.loop-x-item.result _ _ c.loop-x-test.true c.loop-x-item.is c.loop-x.invariant c.in_ok-push.ensures.items

pub returns : goal.returns
returns c = map_all c.args.chosen.now c.loop-x.x-index _ c.loop-x-test.false c.loop-x.invariant
