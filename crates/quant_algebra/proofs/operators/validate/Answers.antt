use Rattle.std.proofs.Common.{refl}
use Rattle.heylo_formula.specs.Operators.{validateᵛ}
use Rattle.quant_algebra.proofs.operators.validate.Goals as goal

pub returns-in-Fin : goal.returns-in-Fin
unfolding validateᵛ
returns-in-Fin c = rw c.in-Fin.is c.zero.ensures.value

pub returns-in-Inf : goal.returns-in-Inf
unfolding validateᵛ
returns-in-Inf c = rw c.in-Inf.is refl
