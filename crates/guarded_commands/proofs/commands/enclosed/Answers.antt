use Rattle.guarded_commands.proofs.commands.enclosed.Goals as goal
use Rattle.std.proofs.Common.{arith, refl}
use Rattle.std.proofs.lemmas.Grind.{common_steps}

pub returns-in_err-rest-clause-value : goal.returns-in_err-rest-clause-value
returns-in_err-rest-clause-value c = λ n h. grind (arith, common_steps, c.in_err-rest.ensures.value)

pub returns-in_err-found-clause-value : goal.returns-in_err-found-clause-value
returns-in_err-found-clause-value c = λ n h. rw (c.in_ok-rest.ensures.value) (grind (arith, common_steps, c.in_err-found.ensures.value n (omega (arith, c.in_ok-rest.ensures.shorter))))

pub returns-in_err-rest-2-clause-value : goal.returns-in_err-rest-2-clause-value
returns-in_err-rest-2-clause-value c = λ n h. rw (c.in_ok-rest.ensures.value, c.in_ok-found.ensures.value n (omega (arith, c.in_ok-rest.ensures.shorter))) (grind (arith, common_steps, c.in_err-rest-2.ensures.value))

pub returns-clause-value : goal.returns-clause-value
returns-clause-value c = λ n h. rw (c.in_ok-rest.ensures.value, c.in_ok-found.ensures.value n (omega (arith, c.in_ok-rest.ensures.shorter)), c.in_ok-rest-2.ensures.value) (refl)
