use Rattle.run_machine.proofs.Parts.{nothing_left}
use Rattle.run_machine.proofs.call_steps.assign_all.Goals as goal

pub returns-in-None : goal.returns-in-None
returns-in-None c = nothing_left _ c.loop-target.left.now c.loop-target.state.items _ c.in-None.ensures.cases c.loop-target.invariant
