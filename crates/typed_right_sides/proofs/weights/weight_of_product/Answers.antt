use Rattle.heyvl_num.specs.Rational.{ratio}
use Rattle.typed_right_sides.proofs.Coprime.{product_none, product_some}
use Rattle.typed_right_sides.proofs.WeightFractions.{passed_parts}
use Rattle.typed_right_sides.proofs.weights.weight_of_product.Goals as goal
use Rattle.static_rules.specs.Literals.{weight_of_value}
use Rattle.std.proofs.Common.{FitsSigned, ap, rules, ◌∙◌, ◌≡◌}
use Rattle.std.specs.Int.{w128}

pub returns-in-Some : goal.returns-in-Some
returns-in-Some c =
    let a : c.fraction-first.result ≡ ratio c.args.left.num c.args.right.den = passed_parts c.fraction-first.result c.num.result c.den.result _ _ (search rules) (search rules) c.num.ensures c.den.ensures c.fraction-first.ensures in
    let b : c.fraction-second.result ≡ ratio c.args.right.num c.args.left.den = passed_parts c.fraction-second.result c.num-2.result c.den-2.result _ _ (search rules) (search rules) c.num-2.ensures c.den-2.ensures c.fraction-second.ensures in
    c.weight_of_value.ensures ∙ ap weight_of_value (product_some _ _ _ _ _ a b c.in-Some.ensures)

pub returns-in-None : goal.returns-in-None
returns-in-None c =
    let a : c.fraction-first.result ≡ ratio c.args.left.num c.args.right.den = passed_parts c.fraction-first.result c.num.result c.den.result _ _ (search rules) (search rules) c.num.ensures c.den.ensures c.fraction-first.ensures in
    let b : c.fraction-second.result ≡ ratio c.args.right.num c.args.left.den = passed_parts c.fraction-second.result c.num-2.result c.den-2.result _ _ (search rules) (search rules) c.num-2.ensures c.den-2.ensures c.fraction-second.ensures in
    product_none _ _ _ _ a b c.in-None.ensures
