use Rattle.heyvl_syntax.specs.Expressions.{expression}
use Rattle.typed_right_sides.proofs.WeightSums.{narrow_weight}
use Rattle.typed_right_sides.proofs.right_sides.read_likely.Goals as goal
use Rattle.static_rules.specs.Literals.{is_too_wide, weight_value}
use Rattle.std.proofs.Common.{ap, ◌∙◌}

pub flip_parts-requires : goal.flip_parts-requires
flip_parts-requires c = ap is_too_wide c.weight_value.ensures ∙ ap (λ w. is_too_wide (weight_value w)) c.weight_of-3.ensures ∙ narrow_weight (expression c.args.probability.now)
