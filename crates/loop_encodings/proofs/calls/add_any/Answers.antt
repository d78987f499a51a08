use Rattle.std.proofs.Common.{arith}
use Rattle.loop_encodings.proofs.CallSteps.{any_step}
use Rattle.loop_encodings.proofs.calls.add_any.Goals as goal

pub loop-variable-preserved : goal.loop-variable-preserved
loop-variable-preserved c = (omega arith, any_step c.args.up c.args.span c.args.first c.args.all.now c.loop-variable.variable-index c.loop-variable.x c.variable-item.result c.args.made.now.items c.loop-variable.made.items c.push.new.self.items c.loop-variable.invariant.1 c.in_ok-push.ensures.items c.loop-variable-test.true c.variable-item.is)
