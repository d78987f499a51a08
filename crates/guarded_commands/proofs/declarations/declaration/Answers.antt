use Rattle.guarded_commands.proofs.declarations.declaration.Goals as goal
use Rattle.std.proofs.Common.{arith, refl}
use Rattle.std.proofs.lemmas.Grind.{common_steps}

pub returns-in_err-name-clause-value : goal.returns-in_err-name-clause-value
returns-in_err-name-clause-value c = rw (c.in_ok-ty.ensures.value) (grind (arith, common_steps, c.in_err-name.ensures.value))

pub returns-in_err-name-2-clause-value : goal.returns-in_err-name-2-clause-value
returns-in_err-name-2-clause-value c = rw (c.in_ok-ty.ensures.value, c.in_ok-name.ensures.value) (grind (arith, common_steps, c.in_err-name-2.ensures.value))

pub returns-clause-value : goal.returns-clause-value
returns-clause-value c = rw (c.in_ok-ty.ensures.value, c.in_ok-name.ensures.value, c.in_ok-name-2.ensures.value, c.span_between-span.ensures) refl
