use Rattle.std.proofs.Common.{refl}
use Rattle.linear_elim.proofs.EndRuns.{this_value, next_value, no_value}
use Rattle.linear_elim.proofs.ends.value_of.Goals as goal

pub loop-v-init : goal.loop-v-init
loop-v-init c = refl

pub returns-then-v-x : goal.returns-then-v-x
returns-then-v-x c = this_value c.args.x c.args.chosen.now c.loop-v.v-index c.loop-v-item.result _ c.loop-v-test.true c.loop-v-item.is c.if-v-x.true c.loop-v.invariant

pub loop-v-preserved : goal.loop-v-preserved
loop-v-preserved c = next_value c.args.x c.args.chosen.now c.loop-v.v-index c.loop-v-item.result _ c.loop-v-test.true c.loop-v-item.is c.if-v-x.false c.loop-v.invariant

pub returns : goal.returns
returns c = no_value c.args.x c.args.chosen.now c.loop-v.v-index _ _ c.loop-v-test.false c.zero.ensures c.loop-v.invariant
