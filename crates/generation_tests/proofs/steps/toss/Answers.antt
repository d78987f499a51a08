use Rattle.generation_tests.proofs.BooleanForms.{toss_calm}
use Rattle.generation_tests.proofs.steps.toss.Goals as goal

pub returns : goal.returns
returns c = toss_calm c.in_ok-by.by c.nowhere.result c.in_ok-by.ensures
