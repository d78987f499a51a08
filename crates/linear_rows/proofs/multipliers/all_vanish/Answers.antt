use Rattle.std.proofs.Common.{arith, rules, refl, below_more}
use Rattle.linear_rows.proofs.Coefficients.{vanish_all}
use Rattle.linear_rows.proofs.multipliers.all_vanish.Goals as goal

pub loop-variable-preserved : goal.loop-variable-preserved
loop-variable-preserved c = below_more _ _ c.loop-variable.invariant (search rules)

pub returns : goal.returns
returns c = (λ h. vanish_all _ _ _ c.beyond_used-variable-end.ensures.above (λ x l. c.loop-variable.invariant x (omega (arith, l, c.loop-variable-test.false))), λ h. refl)
