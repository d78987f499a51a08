use Rattle.std.proofs.Common.{ap, ◌∙◌}
use Rattle.heyvl_num.specs.Rational.{◌*ʳ◌}
use Rattle.linear_rows.specs.Numbers.{fits}
use Rattle.linear_rows.proofs.exported.Narrow.{minus_one_fits}
use Rattle.linear_values.proofs.numbers.signed.Goals as goal

pub product-requires-clause-left : goal.product-requires-clause-left
product-requires-clause-left c = ap fits c.minus_one.ensures ∙ minus_one_fits

pub returns-then-downward : goal.returns-then-downward
returns-then-downward c = c.product.ensures ∙ ap (λ w. w *ʳ c.args.x.now) c.minus_one.ensures ∙ (rw c.if-downward.true)
