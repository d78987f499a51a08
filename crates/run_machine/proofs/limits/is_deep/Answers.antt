use Rattle.std.proofs.Common.{arith}
use Rattle.run_machine.proofs.Depths.{values_next, values_none, more_than, at_most}
use Rattle.run_machine.proofs.limits.is_deep.Goals as goal

pub returns-then-len-room : goal.returns-then-len-room
returns-then-len-room c = more_than _ (let i = c.loop-frame.invariant in let n = values_next _ c.loop-frame.frame-index c.frame-item.result c.loop-frame-test.true c.frame-item.is in let t = c.if-len-room.true in let e = c.len-in-loop-frame.ensures in grind (arith, i, n, t, e))

pub returns : goal.returns
returns c = at_most _ (let i = c.loop-frame.invariant in let n = values_none _ c.loop-frame.frame-index c.loop-frame-test.false in grind (arith, i, n))
