use Rattle.std.proofs.Common.{refl, subst, sym}
use Rattle.heyvl_acts.specs.Rules.{Each}
use Rattle.verify_core.specs.internal.SettledGoals.{CanSettle}
use Rattle.verify_core.proofs.SettledGoals.{none_settled, one_settled}
use Rattle.verify_core.proofs.settled_goals.settle_all.Goals as goal

pub loop-goal-init : goal.loop-goal-init
loop-goal-init c = record {
  settled = none_settled c.args.way _ _ _ c.new-all.ensures.items refl;
  can = subst (Each (CanSettle c.args.way)) (sym c.into_iter-goal-iterator.ensures.into_iter_gives.0) c.requires;
}

pub settle-requires : goal.settle-requires
settle-requires c = (subst (Each (CanSettle c.args.way)) c.in-Some.ensures.steps.0 c.loop-goal.invariant.can).0

pub loop-goal-preserved : goal.loop-goal-preserved
loop-goal-preserved c = record {
  settled = one_settled c.args.way c.loop-goal.yielded c.loop-goal.all.items c.push.new.self.items _ _ _ c.in-Some.goal _ c.loop-goal.invariant.settled c.in_ok-outcome.ensures c.in_ok-push.ensures.items;
  can = (subst (Each (CanSettle c.args.way)) c.in-Some.ensures.steps.0 c.loop-goal.invariant.can).1;
}
