use Rattle.heyvl_syntax.specs.Expressions.{expression}
use Rattle.typed_right_sides.proofs.FlipRules.{likely_gives, toss_gives}
use Rattle.typed_right_sides.proofs.right_sides.read_flip.Goals as goal
use Rattle.static_rules.specs.Literals.{is_weight_literal}
use Rattle.std.proofs.Common.{ap, sym, ◌∙◌}

pub returns-then-is_weight_literal : goal.returns-then-is_weight_literal
returns-then-is_weight_literal c = likely_gives c.read_likely.result c.args.next c.args.scope.now c.args.targets.now (expression c.args.probability.now) c.args.span (sym (c.is_weight_literal.ensures ∙ ap is_weight_literal c.weight_of.ensures) ∙ c.if-is_weight_literal.true) c.read_likely.ensures

pub returns-else-is_weight_literal : goal.returns-else-is_weight_literal
returns-else-is_weight_literal c = toss_gives c.read_toss.result c.args.next c.args.scope.now c.args.targets.now (expression c.args.probability.now) c.args.span (sym (c.is_weight_literal.ensures ∙ ap is_weight_literal c.weight_of.ensures) ∙ c.if-is_weight_literal.false) c.read_toss.ensures
