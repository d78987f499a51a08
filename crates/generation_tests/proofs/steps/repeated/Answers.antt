use Rattle.std.proofs.Common.{sym, subst}
use Rattle.heyvl_acts.specs.PlainActs.{acts_of}
use Rattle.generation_tests.specs.BooleanActs.{AreCalm}
use Rattle.generation_tests.proofs.BooleanForms.{none_calm, calm_last}
use Rattle.generation_tests.proofs.steps.repeated.Goals as goal

pub times-init : goal.times-init
times-init c = subst (λ l. AreCalm (acts_of l)) (sym c.new-acts.ensures.items) none_calm

pub times-preserved : goal.times-preserved
times-preserved c = subst (λ l. AreCalm (acts_of l)) (sym c.in_ok-push.ensures.items) (calm_last c.times.acts.items c.in_ok-next.next c.times.invariant c.in_ok-next.ensures)
