use Rattle.std.proofs.Common.{sym, ◌∙◌}
use Rattle.linear_values.proofs.WholeFractions.{zero_factor}
use Rattle.linear_values.proofs.numbers.product.Goals as goal

pub returns-then-is_zero : goal.returns-then-is_zero
returns-then-is_zero c = zero_factor c.args.x.now c.args.y.now (sym c.is_zero.ensures ∙ c.if-is_zero.true)
