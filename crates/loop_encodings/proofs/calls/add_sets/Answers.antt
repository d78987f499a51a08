use Rattle.std.proofs.Common.{arith}
use Rattle.loop_encodings.proofs.CallSteps.{sets_step}
use Rattle.loop_encodings.proofs.calls.add_sets.Goals as goal

pub loop-argument-preserved : goal.loop-argument-preserved
loop-argument-preserved c = (omega arith, sets_step c.args.span c.args.first c.args.arguments.now c.loop-argument.argument-index c.loop-argument.x c.argument-item.result c.in_ok-copy.field-0 c.args.made.now.items c.loop-argument.made.items c.push.new.self.items c.loop-argument.invariant.1 c.in_ok-push.ensures.items c.in_ok-copy.ensures c.loop-argument-test.true c.argument-item.is)
