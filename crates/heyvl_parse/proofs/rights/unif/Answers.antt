use Rattle.heyvl_parse.proofs.rights.unif.Goals as goal
use Rattle.std.proofs.Common.{arith, refl}
use Rattle.std.proofs.lemmas.Grind.{common_steps}

pub returns-in_err-ends-clause-value : goal.returns-in_err-ends-clause-value
returns-in_err-ends-clause-value c = λ n h. rw (c.in_ok-rest.ensures.value) (grind (arith, common_steps, c.in_err-ends.ensures.value n (omega (arith, c.in_ok-rest.ensures.shorter))))

pub returns-clause-value : goal.returns-clause-value
returns-clause-value c = λ n h. rw (c.in_ok-rest.ensures.value, c.in_ok-ends.ensures.value n (omega (arith, c.in_ok-rest.ensures.shorter))) refl
