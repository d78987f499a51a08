use Rattle.run_machine.proofs.Parts.{outs_next}
use Rattle.run_machine.proofs.call_steps.push_outs.Goals as goal

pub loop-x-preserved : goal.loop-x-preserved
loop-x-preserved c = outs_next c.loop-x.items.items c.push.new.self.items c.args.q c.loop-x.x _ _ c.loop-x-test.true c.in_ok-push.ensures.items c.loop-x.invariant
