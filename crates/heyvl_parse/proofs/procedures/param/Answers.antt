use Rattle.heyvl_parse.proofs.procedures.param.Goals as goal
use Rattle.std.proofs.Common.{arith, refl}
use Rattle.std.proofs.lemmas.Grind.{common_steps}

pub returns-in_err-typed-clause-value : goal.returns-in_err-typed-clause-value
returns-in_err-typed-clause-value c = grind (arith, common_steps, c.in_err-typed.ensures.value)

pub returns-clause-value : goal.returns-clause-value
returns-clause-value c = rw (c.in_ok-typed.ensures.value, c.span_between.ensures) refl
