use Rattle.linear_guess.proofs.SpotRows.{met_more}
use Rattle.linear_guess.proofs.spots.met_from.Goals as goal

pub loop-i-preserved : goal.loop-i-preserved
loop-i-preserved c h = met_more c.args.spot.now.below c.args.spot.now.tops.items c.args.rows.now c.loop-i.i c.index-rows-i.result c.deref.result.now c.loop-i-test.true c.index-rows-i.is c.deref.ensures.value (c.loop-i.invariant h) (c.is_met.ensures c.if-not-is_met.false)
