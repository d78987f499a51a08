use Rattle.interval_choice.proofs.PickLaws.{zero_taken}
use Rattle.interval_choice.proofs.picks.taken_between.Goals as goal

pub returns-in-None-taken_near : goal.returns-in-None-taken_near
returns-in-None-taken_near c = λ n w i. zero_taken c.args.low.now c.args.high.now c.args.ty c.zero.result c.zero.ensures c.in-None.ensures c.in-None-taken_near.ensures
