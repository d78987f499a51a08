use Rattle.generation_tests.proofs.BooleanForms.{weight_is}
use Rattle.generation_tests.proofs.steps.weight.Goals as goal

pub returns : goal.returns
returns c = weight_is c.in_ok-test.test c.in_ok-first.first c.in_ok-second.second c.in_ok-third.third c.in_ok-half.half c.in_ok-test.ensures.ok c.in_ok-first.ensures.ok c.in_ok-second.ensures.ok c.in_ok-third.ensures c.in_ok-half.ensures
