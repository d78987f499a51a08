use Rattle.heyvl_syntax.specs.Expressions.{expression}
use Rattle.heyvl_syntax.specs.Statements.{choices}
use Rattle.typed_right_sides.proofs.WeightSums.{narrow_weight, narrow_zero}
use Rattle.typed_right_sides.proofs.choices.sums_wrong.Goals as goal
use Rattle.static_rules.specs.Literals.{is_too_wide, sums_wrong, weight_value}
use Rattle.static_rules.specs.RightSides.{weights}
use Rattle.std.proofs.Common.{ap, ◌∙◌}

pub loop-likely-init : goal.loop-likely-init
loop-likely-init c = record {
  same = ap (λ z. sums_wrong z (weights (choices c.args.all.now))) c.zero-total.ensures;
  narrow = ap is_too_wide c.zero-total.ensures ∙ narrow_zero;
}

pub sum-requires-clause-right : goal.sum-requires-clause-right
sum-requires-clause-right c = ap is_too_wide c.weight_value.ensures ∙ ap (λ w. is_too_wide (weight_value w)) c.weight_of.ensures ∙ narrow_weight (expression c.loop-likely-item.result.0)
