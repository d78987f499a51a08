use Rattle.heyvl_parse.proofs.procedures.procedure.Goals as goal
use Rattle.std.proofs.Common.{arith, refl}
use Rattle.std.proofs.lemmas.Grind.{common_steps}

pub returns-in_err-signed-clause-value : goal.returns-in_err-signed-clause-value
returns-in_err-signed-clause-value c = λ n h. rw (c.in_ok-front.ensures.value) (grind (arith, common_steps, c.in_err-signed.ensures.value n (omega (arith, c.in_ok-front.ensures.shorter))))

pub returns-in_err-promised-clause-value : goal.returns-in_err-promised-clause-value
returns-in_err-promised-clause-value c = λ n h. rw (c.in_ok-front.ensures.value, c.in_ok-signed.ensures.value n (omega (arith, c.in_ok-front.ensures.shorter))) (grind (arith, common_steps, c.in_err-promised.ensures.value n (omega (arith, c.in_ok-front.ensures.shorter, c.in_ok-signed.ensures.shorter))))

pub returns-clause-value : goal.returns-clause-value
returns-clause-value c = λ n h. rw (c.in_ok-front.ensures.value, c.in_ok-signed.ensures.value n (omega (arith, c.in_ok-front.ensures.shorter)), c.in_ok-promised.ensures.value n (omega (arith, c.in_ok-front.ensures.shorter, c.in_ok-signed.ensures.shorter)), c.span_between.ensures) refl
