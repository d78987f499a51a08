use Rattle.run_machine.specs.Replies.{stored_outcomes}
use Rattle.run_unroller.proofs.AddedSums.{no_sum}
use Rattle.run_unroller.proofs.turns.all_turns.Goals as goal

pub returns-in-None : goal.returns-in-None
returns-in-None c = no_sum (stored_outcomes c.args.runs.now) c.loop-index.turns.items c.loop-index.index c.args.loops (c.loop-index.invariant) c.in-None.ensures c.loop-index-test.true
