use Rattle.std.specs.Vec.Iter.{into_iter_items}
use Rattle.heyvl_acts.specs.Rules.{Each}
use Rattle.verify_core.specs.internal.SettledGoals.{AreSettled, CanSettle}
use Rattle.verify_core.proofs.settled_goals.settle_all.Given as goal

abbrev pub invariant-loop-goal : goal.invariant-loop-goal
invariant-loop-goal l = record {
  settled : AreSettled l.way l.yielded l.all.items l.initial.certs.items l.certs.items;
  can : Each (CanSettle l.way) (into_iter_items l.goal-iterator);
}
