use Rattle.heyvl_parse.proofs.rights.flip.Goals as goal
use Rattle.std.proofs.Common.{arith, refl}
use Rattle.std.proofs.lemmas.Grind.{common_steps}

pub returns-in_err-probability-clause-value : goal.returns-in_err-probability-clause-value
returns-in_err-probability-clause-value c = λ n h. rw (c.in_ok-rest.ensures.value) (grind (arith, common_steps, c.in_err-probability.ensures.value n (omega (arith, c.in_ok-rest.ensures.shorter))))

pub returns-clause-value : goal.returns-clause-value
returns-clause-value c = λ n h. rw (c.in_ok-rest.ensures.value, c.in_ok-probability.ensures.value n (omega (arith, c.in_ok-rest.ensures.shorter))) refl
