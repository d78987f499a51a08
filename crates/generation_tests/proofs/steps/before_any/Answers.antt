use Rattle.generation_tests.proofs.BooleanForms.{any_behind}
use Rattle.generation_tests.proofs.steps.before_any.Goals as goal

pub returns : goal.returns
returns c = any_behind c.in_ok-first.first c.nowhere.result c.in_ok-acts.acts.items c.in_ok-acts.ensures.items c.in_ok-first.ensures
