use Rattle.heyvl_acts.specs.PlainActs.{acts_of}
use Rattle.generation_tests.specs.BooleanActs.{AreCalm}
use Rattle.generation_tests.proofs.steps.repeated.Given as goal

abbrev pub invariant-times : goal.invariant-times
invariant-times l = AreCalm (acts_of l.acts.items)
