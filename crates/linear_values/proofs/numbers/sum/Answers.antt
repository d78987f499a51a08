use Rattle.std.proofs.Common.{sym, ◌∙◌}
use Rattle.linear_values.proofs.WholeFractions.{zero_left, zero_right}
use Rattle.linear_values.proofs.numbers.sum.Goals as goal

pub returns-then-is_zero : goal.returns-then-is_zero
returns-then-is_zero c = zero_right c.args.x.now c.args.y.now (sym c.is_zero.ensures ∙ c.if-is_zero.true)

pub returns-then-is_zero-2 : goal.returns-then-is_zero-2
returns-then-is_zero-2 c = zero_left c.args.x.now c.args.y.now (sym c.is_zero-else-is_zero.ensures ∙ c.if-is_zero-2.true)
