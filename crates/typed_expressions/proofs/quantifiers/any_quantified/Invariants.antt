use Rattle.heyvl_syntax.specs.Expressions.{expressions}
use Rattle.std.proofs.Common.{drop, ◌≡◌}
use Rattle.std.specs.List.{list_any}
use Rattle.typed_expressions.proofs.quantifiers.any_quantified.Given as goal
use Rattle.typed_expressions.specs.TypedExpressions.{has_quantifier}

abbrev pub invariant-loop-e : goal.invariant-loop-e
invariant-loop-e l = list_any has_quantifier (expressions l.all) ≡ list_any has_quantifier (expressions (drop l.e-index l.all))
