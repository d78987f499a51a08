use Rattle.guarded_commands.proofs.PlainCommandsAre.{plain_commands}
use Rattle.guarded_commands.proofs.commands.named.Goals as goal
use Rattle.std.proofs.Common.{arith, refl}
use Rattle.std.proofs.lemmas.Grind.{common_steps}

pub returns-in_err-rest-clause-value : goal.returns-in_err-rest-clause-value
returns-in_err-rest-clause-value c = λ n h. rw (c.in_ok-name.ensures.value, ← c.if-skips.ensures) (grind (arith, common_steps, c.in_err-rest.ensures.value))

pub returns-then-skips-clause-value : goal.returns-then-skips-clause-value
returns-then-skips-clause-value c = λ n h. rw (c.in_ok-name.ensures.value, ← c.if-skips.ensures, c.in_ok-rest.ensures.value) (rw (plain_commands.skip c.span_between.result, c.span_between.ensures) refl)

pub returns-in_err-value-clause-value : goal.returns-in_err-value-clause-value
returns-in_err-value-clause-value c = λ n h. rw (c.in_ok-name.ensures.value, ← c.if-skips.ensures) (grind (arith, common_steps, c.in_err-value.ensures.value n (omega (arith, c.in_ok-name.ensures.shorter))))

pub returns-clause-value : goal.returns-clause-value
returns-clause-value c = λ n h. rw (c.in_ok-name.ensures.value, ← c.if-skips.ensures, c.in_ok-value.ensures.value n (omega (arith, c.in_ok-name.ensures.shorter))) (rw (plain_commands.assign c.in_ok-name.name c.in_ok-value.value c.span_between-2.result, c.span_between-2.ensures) refl)
