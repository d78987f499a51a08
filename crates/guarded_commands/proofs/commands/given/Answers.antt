use Rattle.guarded_commands.proofs.commands.given.Goals as goal
use Rattle.std.proofs.Common.{arith}
use Rattle.std.proofs.lemmas.Grind.{common_steps}

pub returns-in_err-rest-2-clause-value : goal.returns-in_err-rest-2-clause-value
returns-in_err-rest-2-clause-value c = λ n h. rw (c.in_ok-rest.ensures.value) (grind (arith, common_steps, c.in_err-rest-2.ensures.value))

pub returns-clause-value : goal.returns-clause-value
returns-clause-value c = λ n h. rw (c.in_ok-rest.ensures.value, c.in_ok-rest-2.ensures.value) (c.ended_expr.ensures.value n (omega (arith, c.in_ok-rest.ensures.shorter, c.in_ok-rest-2.ensures.shorter)))
