use Rattle.typed_right_sides.proofs.WeightFractions.{quotient_weight}
use Rattle.typed_right_sides.proofs.weights.weight_of_quotient.Goals as goal
use Rattle.std.proofs.Common.{◌∙◌}
use Rattle.typed_expressions.proofs.exported.LiteralFractions.{inverse_natural, written_natural}

pub weight_of_product-requires-clause-left : goal.weight_of_product-requires-clause-left
weight_of_product-requires-clause-left c = written_natural c.args.dividend c.in-Some-Some.value c.in-Some-Some.ensures

pub weight_of_product-requires-clause-right : goal.weight_of_product-requires-clause-right
weight_of_product-requires-clause-right c = inverse_natural c.args.divisor c.in-Some.factor c.in-Some.ensures

pub returns-in-Some : goal.returns-in-Some
returns-in-Some c = c.weight_of_product.ensures ∙ quotient_weight c.args.dividend c.args.divisor c.in-Some-Some.value c.in-Some.factor c.in-Some-Some.ensures c.in-Some.ensures
